-- `dress::spread` meets its contract: a text that needn't move stands where it must. Assumes nothing.
use mathlib.Core.Path.{◌≡◌, refl, sym}
use mathlib.Core.List.{List, ◌++◌}
use Prim.Native.Nat.{ℕ, ◌+◌, ◌<◌, ◌≤◌}
use native.Mathlib.Omega.{arith}
use lib.ListN.{length, take}
use Rattle.buffer.specs.Bytes.{part}
use Rattle.buffer.specs.Buffer.{put_at}
use Rattle.colour.specs.Sequences.{reinserted}
use Rattle.dress.proofs.Moving.{Halfway, not_past, reached}
use Rattle.dress.proofs.spread.Goals as goal

stands : (d p : List ℕ) (o i e : ℕ) → i ≤ e → e ≤ length d → o + length (reinserted p (part i e d)) ≡ e → (o < i → ⊥) → d ≡ put_at d o (reinserted p (part i e d))
stands d p o i e h g q n =
    let s = reinserted p (part i e d) in
    let k : Halfway d p (take o d ++ s) e d o i = record { inside = g; long = refl; left = h; unread = refl; ends = q; written = refl } in
    reached s o k (sym q) (omega (arith, not_past k, n))

pub returns-else-o-i : goal.returns-else-o-i
returns-else-o-i c = stands c.args.out.now c.args.p.now c.args.o c.args.i c.args.e c.requires.0 c.requires.1.0 c.requires.1.1 (λ l. omega (arith, c.if-o-i.false))
