-- `parse_parameter` meets its contract. Assumes nothing.
use Rattle.words.specs.Within.{told, Fitting}
use Rattle.words.specs.Trying.{◌then◌}
use Rattle.building.proofs.Answers.{handed_on}
use Rattle.lists.proofs.Worded.{asked_narrow}
use Rattle.lists.proofs.parse_parameter.Goals as goal

pub returns-in_err-j-clause-result_value : goal.returns-in_err-j-clause-result_value
unfolding told ◌then◌
returns-in_err-j-clause-result_value c = rw (handed_on _ _ c.from_residual.ensures.1, ← c.in_err-j.ensures.result_value)

pub returns-in_default-clause-result_value : goal.returns-in_default-clause-result_value
unfolding told ◌then◌
returns-in_default-clause-result_value c = rw (← c.in_ok-j.ensures.result_value, c.in_default.is)

pub returns-clause-result_value : goal.returns-clause-result_value
unfolding told ◌then◌
returns-clause-result_value c = rw (← c.in_ok-j.ensures.result_value, c.in-Some.is, c.with_parameter.ensures)

pub returns-clause-within : goal.returns-clause-within
unfolding Fitting
returns-clause-within c = let w = rw c.in-Some.is at c.in_ok-j.ensures.within in (w.0, (w.1, asked_narrow _ _ _ c.with_parameter.ensures c.requires.2 w.2))
