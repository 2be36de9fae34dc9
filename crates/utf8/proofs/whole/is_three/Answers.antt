-- `utf8::whole::is_three` meets its contract. Assumes nothing.
use borrow.Author.Tests.{ne_eqb}
use mathlib.Core.Path.{sym, ◌∙◌, subst}
use mathlib.Core.List.{[], ◌∷◌}
use Rattle.utf8.specs.Windows.{Whole}
use Rattle.utf8.proofs.Wholes.{three_whole, three_off, three_second, whole_by, none_or_one}
use Rattle.utf8.proofs.whole.is_three.Goals as goal

pub returns-then-goes_on-eq1 : goal.returns-then-goes_on-eq1
returns-then-goes_on-eq1 c =
    let a = c.args.a in
    let b = c.args.b in
    let d = c.args.c in
    whole_by (a ∷ b ∷ d ∷ []) _ (λ t. three_whole a b d c.requires.0 c.requires.1 (c.goes_second.ensures.0 t) (sym c.goes_on.ensures ∙ c.if-goes_on-eq1.true))
    (λ t. three_second a b d c.requires.0 c.requires.1 (c.goes_second.ensures.1 t))

pub returns-else-goes_on-eq1 : goal.returns-else-goes_on-eq1
returns-else-goes_on-eq1 c =
    subst (Whole (c.args.a ∷ c.args.b ∷ c.args.c ∷ [])) (sym (ne_eqb c.goes_on.result 1 c.if-goes_on-eq1.false))
    (three_off _ _ _ c.requires.0 c.requires.1 (none_or_one _ _ c.goes_on.ensures c.if-goes_on-eq1.false))
