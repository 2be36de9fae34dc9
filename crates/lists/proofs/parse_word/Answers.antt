-- `parse_word` meets its contract. Assumes nothing.
use Rattle.words.specs.Within.{told, Fitting}
use Rattle.words.specs.Trying.{◌then◌, ◌or_else◌}
use Rattle.building.specs.Reading.{word_at}
use Rattle.building.proofs.Answers.{handed_on}
use Rattle.lists.proofs.Worded.{named_narrow}
use Rattle.lists.proofs.parse_word.Goals as goal

pub returns-in_err-j-clause-result_value : goal.returns-in_err-j-clause-result_value
unfolding told ◌then◌ ◌or_else◌ word_at
returns-in_err-j-clause-result_value c = rw (handed_on _ _ c.from_residual.ensures.1, ← c.in_err-j.ensures.result_value)

pub returns-in-Some-clause-result_value : goal.returns-in-Some-clause-result_value
unfolding told ◌then◌ ◌or_else◌ word_at
returns-in-Some-clause-result_value c = rw (← c.in_ok-j.ensures.result_value, c.in-Some.is, c.with_specifier.ensures)

pub returns-in-None-clause-result_value : goal.returns-in-None-clause-result_value
unfolding told ◌then◌ ◌or_else◌ word_at
returns-in-None-clause-result_value c = rw (← c.in_ok-j.ensures.result_value, c.in-None.is) c.parse_parameter.ensures.result_value

pub returns-in-Some-clause-within : goal.returns-in-Some-clause-within
unfolding Fitting
returns-in-Some-clause-within c = let w = rw c.in-Some.is at c.in_ok-j.ensures.within in (w.0, (w.1, named_narrow _ _ _ c.with_specifier.ensures c.requires.2))
