-- `parse_name` meets its contract. Assumes nothing.
use mathlib.Core.Path.{ap, sym, ◌∙◌}
use Rattle.std.specs.Prelude.{Ok}
use Rattle.words.specs.declared.Parameter.{Parameter}
use Rattle.words.specs.Within.{told, told_read, found}
use Rattle.words.specs.Words.{sense, sensed}
use Rattle.words.proofs.Asking.{no_parameter, parameter_named, either_found, either_other}
use Rattle.words.proofs.parser.parse_name.Goals as goal

pub returns-then-j-from-clause-result_value : goal.returns-then-j-from-clause-result_value
unfolding told
returns-then-j-from-clause-result_value c = sym (no_parameter _ _ _ _ c.letters_end-j.ensures.value c.if-j-from.true)

pub returns-in-Some-clause-result_value : goal.returns-in-Some-clause-result_value
unfolding told found sense sensed
returns-in-Some-clause-result_value c =
    parameter_named _ _ _ _ c.letters_end-j.ensures.value _ (either_found Parameter.Color _ _ _ c.in-Some.ensures)

pub returns-in_err-parse_style-in-None-clause-result_value : goal.returns-in_err-parse_style-in-None-clause-result_value
unfolding told found sense sensed
returns-in_err-parse_style-in-None-clause-result_value c =
    ap (λ o. told_read (Ok o)) c.from_residual.ensures
    ∙ parameter_named _ _ _ _ c.letters_end-j.ensures.value _ (c.in_err-parse_style-in-None.ensures ∙ sym (either_other _ _ (sym c.in-None.ensures)))

pub returns-in_ok-parse_style-in-None-clause-result_value : goal.returns-in_ok-parse_style-in-None-clause-result_value
unfolding told found sense sensed
returns-in_ok-parse_style-in-None-clause-result_value c =
    parameter_named _ _ _ _ c.letters_end-j.ensures.value _ (c.in_ok-parse_style-in-None.ensures ∙ sym (either_other _ _ (sym c.in-None.ensures)))
