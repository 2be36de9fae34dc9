-- `comparisons::is_closed` meets its contract. Assumes nothing.
use native.Mathlib.Omega.{arith}
use Prim.Native.Nat.{ℕ}
use mathlib.Core.Path.{◌≡◌, sym, ap, ◌∙◌}
use mathlib.Core.Bool.{false}
use mathlib.Core.List.{List, []}
use Rattle.buffer.specs.Bytes.{part}
use borrow.Author.Tests.{le-ltb}
use Rattle.comparisons.proofs.Parts.{part_none}
use Rattle.comparisons.specs.Comparisons.{ends_with}
use Rattle.comparisons.specs.Places.{unended}
use Rattle.comparisons.proofs.Marking.{ends_at}
use Rattle.comparisons.proofs.is_closed.Goals as goal

ends_nothing : (b : ℕ) (x : List ℕ) → x ≡ [] → false ≡ ends_with b x
unfolding ends_with
ends_nothing b x e = sym (ap (ends_with b) e)

pub returns-then-from-e : goal.returns-then-from-e
returns-then-from-e c =
    let d = c.args.d.now in
    sym (ap (ends_with 0x60) (sym c.text_end-e.ensures.1) ∙ ends_at d c.args.from c.text_end-e.result 0x60 c.if-from-e.true (omega (arith, c.text_end-e.ensures.0.1)))

pub returns-else-from-e : goal.returns-else-from-e
returns-else-from-e c =
    let d = c.args.d.now in
    le-ltb c.args.from c.text_end-e.result c.if-from-e.false
    ∙ ends_nothing 0x60 (unended (part c.args.from c.args.to d)) (sym c.text_end-e.ensures.1 ∙ part_none d c.args.from c.text_end-e.result c.if-from-e.false)
