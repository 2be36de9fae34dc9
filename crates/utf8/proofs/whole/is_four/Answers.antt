-- `utf8::whole::is_four` meets its contract. Assumes nothing.
use mathlib.Core.Path.{sym, ◌∙◌, subst}
use mathlib.Core.List.{[], ◌∷◌}
use borrow.Author.Tests.{eqb-true, eqb-false, lt-leb}
use Rattle.utf8.specs.Windows.{Whole}
use Rattle.utf8.proofs.Wholes.{four_whole, four_high, four_off, four_third, four_second, whole_by, none_or_one, not_so}
use Rattle.utf8.proofs.whole.is_four.Goals as goal
use Rattle.utf8.proofs.whole.is_four.Goals.{then-a-le244, else-a-le244, then-goes_on-eq1, else-goes_on-eq1}

pub returns-then-goes_on-eq1-2 : goal.returns-then-goes_on-eq1-2
returns-then-goes_on-eq1-2 c =
    let t = c.if-goes_on-eq1-2.true in
    elim c.if-goes_on-eq1.branch [
      | then-goes_on-eq1 w ↦ elim c.if-a-le244.branch [
        | then-a-le244 u ↦ whole_by (c.args.a ∷ c.args.b ∷ c.args.c ∷ c.args.d ∷ []) _
            (λ v. four_whole c.args.a c.args.b c.args.c c.args.d c.requires (c.goes_second.ensures.0 v) (sym w.goes_on-then-goes_on-eq1.ensures ∙ eqb-true _ 1 (sym w.value-is ∙ t))
            (sym u.goes_on.ensures ∙ eqb-true _ 1 (sym u.value-is ∙ w.if-goes_on-eq1.true)))
            (λ v. four_second c.args.a c.args.b c.args.c c.args.d c.requires (c.goes_second.ensures.1 v))
        | else-a-le244 u ↦ absurd (not_so (sym (u.value-is ∙ lt-leb c.args.a 0xF4 u.if-a-le244.false) ∙ w.if-goes_on-eq1.true))
      ]
      | else-goes_on-eq1 w ↦ absurd (not_so (sym (w.value-is ∙ w.if-goes_on-eq1.false) ∙ t))
    ]

pub returns-else-goes_on-eq1-2 : goal.returns-else-goes_on-eq1-2
returns-else-goes_on-eq1-2 c =
    let t = c.if-goes_on-eq1-2.false in
    subst (Whole (c.args.a ∷ c.args.b ∷ c.args.c ∷ c.args.d ∷ [])) (sym t)
    (elim c.if-goes_on-eq1.branch [
      | then-goes_on-eq1 w ↦ four_third _ _ _ _ c.requires (none_or_one _ _ w.goes_on-then-goes_on-eq1.ensures (eqb-false _ 1 (sym w.value-is ∙ t)))
      | else-goes_on-eq1 w ↦ elim c.if-a-le244.branch [
        | then-a-le244 u ↦ four_off _ _ _ _ c.requires (none_or_one _ _ u.goes_on.ensures (eqb-false _ 1 (sym u.value-is ∙ w.if-goes_on-eq1.false)))
        | else-a-le244 u ↦ four_high _ _ _ _ c.requires u.if-a-le244.false
      ]
    ])
