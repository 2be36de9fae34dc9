-- `rows::Material::members_len` meets its contract. Assumes nothing.
use Prim.Native.Nat.{◌+◌, ◌-◌}
use mathlib.Core.Path.{◌≡◌, refl}
use native.Mathlib.Omega.{arith}
use Rattle.segments.specs.Pool.{back}
use Rattle.rows.proofs.Lengths.{lengths_none, lengths_step}
use Rattle.rows.proofs.Material.members_len.Goals as goal

pub overflow_add-n : goal.overflow_add-n
overflow_add-n c =
    let e : c.loop-k.k ≡ c.loop-k.k - 1 + 1 = omega (arith, c.loop-k-test.true) in
    omega (arith, lengths_step c.args.self.now.cells.now c.args.table.now c.loop-k.k (c.loop-k.k - 1) (back c.args.self.now.cells.now (c.loop-k.k - 1)) e refl, c.loop-k.invariant.1, c.requires.l_bound)

pub loop-k-preserved : goal.loop-k-preserved
loop-k-preserved c =
    let e : c.loop-k.k ≡ c.loop-k.k - 1 + 1 = omega (arith, c.loop-k-test.true) in
    (omega (arith, c.back_at-k.ensures.1, c.loop-k.invariant.0), omega (arith, lengths_step c.args.self.now.cells.now c.args.table.now c.loop-k.k (c.loop-k.k - 1) c.back_at-k.result e c.back_at-k.ensures.0, c.loop-k.invariant.1))

pub returns : goal.returns
returns c = omega (arith, c.loop-k.invariant.1, lengths_none c.args.self.now.cells.now c.args.table.now c.loop-k.k (omega (arith, c.loop-k-test.false)))
