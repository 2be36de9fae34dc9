-- `utf8::whole::is_two` meets its contract. Assumes nothing.
use borrow.Author.Tests.{ne_eqb, leb-true, leb-false}
use mathlib.Core.Path.{sym, ◌∙◌, subst}
use mathlib.Core.List.{[], ◌∷◌}
use native.Mathlib.Decide.{dec_lt}
use native.Mathlib.Omega.{arith}
use Rattle.utf8.specs.Windows.{Whole}
use Rattle.utf8.proofs.Wholes.{two_whole, two_low, two_off, whole_by, none_or_one}
use Rattle.utf8.proofs.whole.is_two.Goals as goal

pub returns-then-goes_on-eq1 : goal.returns-then-goes_on-eq1
returns-then-goes_on-eq1 c =
    let a = c.args.a in
    let b = c.args.b in
    whole_by (a ∷ b ∷ []) _ (λ t. two_whole a b (leb-true 0xC2 a t) c.requires.1 (sym c.goes_on.ensures ∙ c.if-goes_on-eq1.true))
    (λ t. two_low a b c.requires.0 (leb-false 0xC2 a t))

pub returns-else-goes_on-eq1 : goal.returns-else-goes_on-eq1
returns-else-goes_on-eq1 c =
    let a = c.args.a in
    let b = c.args.b in
    subst (Whole (a ∷ b ∷ [])) (sym (ne_eqb c.goes_on.result 1 c.if-goes_on-eq1.false))
    (elim (dec_lt a 0xC2) [
      | yes h ↦ two_low a b c.requires.0 h
      | no n ↦ two_off a b (omega arith) c.requires.1 (none_or_one _ _ c.goes_on.ensures c.if-goes_on-eq1.false)
    ])
