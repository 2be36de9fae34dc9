-- `endings::parameter_end` meets its contract. Assumes nothing.
use mathlib.Core.Path.{sym, ap, ◌∙◌}
use Rattle.words.proofs.Answers.{told_fit, told_misfit, told_refused}
use Rattle.parts.specs.Parts.{with_parameter}
use Rattle.endings.specs.Ending.{end_of}
use Rattle.endings.proofs.Ended.{ends_then}
use Rattle.endings.proofs.parameter_end.Goals as goal

pub returns-in_default-clause-value : goal.returns-in_default-clause-value
returns-in_default-clause-value c = sym (ap end_of (told_misfit _ _ _ c.parse_parameter.ensures.result_value (cc))) ∙ ends_then _ (with_parameter _)

pub returns-in_default-2-clause-value : goal.returns-in_default-2-clause-value
returns-in_default-2-clause-value c = sym (ap end_of (told_refused _ _ _ c.parse_parameter.ensures.result_value _ c.in_default.is)) ∙ ends_then _ (with_parameter _)

pub returns-clause-value : goal.returns-clause-value
returns-clause-value c = sym (ap end_of (told_fit _ _ _ c.parse_parameter.ensures.result_value (c.in-Ok-Some.j, c.in-Ok-Some.field-0-0-1) (cc))) ∙ ends_then _ (with_parameter _)
