-- `parse_format` meets its contract. Assumes nothing.
use mathlib.Core.Path.{ap, ◌∙◌}
use Rattle.std.specs.Prelude.{Ok}
use Rattle.words.specs.Within.{told}
use Rattle.words.specs.Words.{parameter_at}
use Rattle.words.proofs.Answers.{told_first, told_other}
use Rattle.words.proofs.parser.parse_format.Goals as goal

pub returns-in-Some-clause-result_value : goal.returns-in-Some-clause-result_value
unfolding parameter_at told
returns-in-Some-clause-result_value c = told_first _ _ _ _ c.parse_name.ensures.result_value _ (ap Ok c.in-Some.is)

pub returns-in-None-clause-result_value : goal.returns-in-None-clause-result_value
unfolding parameter_at
returns-in-None-clause-result_value c =
    c.parse_width_and_alignment.ensures.result_value ∙ told_other _ _ _ _ c.parse_name.ensures.result_value (ap Ok c.in-None.is)
