-- `endings::further_end` meets its contract. Assumes nothing.
use mathlib.Core.Path.{sym, ap, ◌∙◌}
use Rattle.words.proofs.Answers.{told_fit, told_misfit, told_refused, fitting}
use Rattle.words.specs.Trying.{◌then◌}
use Rattle.endings.specs.Ending.{made_end}
use Rattle.endings.proofs.Ended.{made_within}
use Rattle.endings.proofs.further_end.Goals as goal

pub returns-in_default-clause-by_index : goal.returns-in_default-clause-by_index
unfolding ◌then◌
returns-in_default-clause-by_index c n h = sym (ap made_end (told_misfit _ _ _ (c.further_words.ensures.by_index n h) (cc)))

pub returns-in_default-2-clause-by_index : goal.returns-in_default-2-clause-by_index
unfolding ◌then◌
returns-in_default-2-clause-by_index c n h = sym (ap made_end (told_refused _ _ _ (c.further_words.ensures.by_index n h) _ c.in_default.is))

pub returns-clause-by_index : goal.returns-clause-by_index
unfolding ◌then◌
returns-clause-by_index c n h =
    c.made_end.ensures ∙ sym (ap made_end (told_fit _ _ _ (c.further_words.ensures.by_index n h) (c.in-Ok-Some.j, c.in-Ok-Some.q) (cc)))

pub returns-clause-within : goal.returns-clause-within
returns-clause-within c =
    let w = fitting _ _ c.further_words.ensures.within (c.in-Ok-Some.j, c.in-Ok-Some.q) (cc) in
    made_within _ _ _ _ w.0 w.1.0 _ c.made_end.ensures
