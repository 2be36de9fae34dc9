-- `parse_words` meets its contract. Assumes nothing.
use Rattle.words.specs.Within.{told, Fitting}
use Rattle.words.specs.Trying.{listed, ◌then◌}
use Rattle.building.proofs.Answers.{handed_on}
use Rattle.lists.proofs.Worded.{narrow_none, words_wider}
use native.Mathlib.Omega.{arith}
use Rattle.lists.proofs.parse_words.Goals as goal

pub parse_word-requires : goal.parse_word-requires
parse_word-requires c = (c.requires.0, c.requires.1, narrow_none _ c.no_parts.ensures)

pub further_words-requires : goal.further_words-requires
unfolding Fitting
further_words-requires c = let w = rw c.in-Some.is at c.in_ok-j.ensures.within in (w.1.0, c.requires.1, w.1.1)

pub returns-in_err-j-clause-result_value : goal.returns-in_err-j-clause-result_value
unfolding told listed ◌then◌
returns-in_err-j-clause-result_value c = rw (handed_on _ _ c.from_residual.ensures.1, ← (rw c.no_parts.ensures at c.in_err-j.ensures.result_value))

pub returns-in_default-clause-result_value : goal.returns-in_default-clause-result_value
unfolding told listed ◌then◌
returns-in_default-clause-result_value c = rw (← (rw (c.no_parts.ensures, c.in_default.is) at c.in_ok-j.ensures.result_value))

pub returns-clause-result_value : goal.returns-clause-result_value
unfolding told listed ◌then◌ Fitting
returns-clause-result_value c =
    let w = rw c.in-Some.is at c.in_ok-j.ensures.within in
    rw (← (rw (c.no_parts.ensures, c.in-Some.is) at c.in_ok-j.ensures.result_value)) (c.further_words.ensures.by_index _ (omega arith))

pub returns-clause-within : goal.returns-clause-within
unfolding Fitting
returns-clause-within c =
    let w = rw c.in-Some.is at c.in_ok-j.ensures.within in
    words_wider _ _ _ _ w.0 c.further_words.ensures.within
