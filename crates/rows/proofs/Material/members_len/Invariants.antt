-- `rows::Material::members_len` meets its contract. The loop's invariant: the lengths added and those further back are all. Assumes nothing.
use Prim.Native.Nat.{◌+◌, ◌≤◌}
use mathlib.Core.Path.{◌≡◌}
use Rattle.rows.specs.Rows.{lengths_back}
use Rattle.rows.proofs.Material.members_len.Given as goal

abbrev pub invariant-loop-k : goal.invariant-loop-k
invariant-loop-k l = (l.k ≤ l.l) × (l.n + lengths_back l.self.cells.now l.table l.k ≡ lengths_back l.self.cells.now l.table l.l)

abbrev pub decreases-loop-k : goal.decreases-loop-k
decreases-loop-k l = l.k
