-- `checks::check_fields` meets its contract: the first text that is refused decides. Assumes nothing.
use mathlib.Core.Path.{sym, ◌∙◌}
use Rattle.record.specs.Placed.{laid_by}
use Rattle.checks.proofs.Refusing.{stopped, passed}
use Rattle.checks.specs.Checks.{fields_refusal}
use Rattle.checks.proofs.check_fields.Goals as goal

pub returns-in_err-check_field : goal.returns-in_err-check_field
unfolding fields_refusal laid_by
returns-in_err-check_field c = stopped _ _ _ _ _ c.in_err-check_field.was c.check_field.ensures c.from_residual.ensures.1

pub returns-in_err-check_field-2 : goal.returns-in_err-check_field-2
unfolding fields_refusal laid_by
returns-in_err-check_field-2 c =
    stopped _ _ _ _ _ c.in_err-check_field-2.was c.check_field-2.ensures c.from_residual-in_err-check_field-2.ensures.1
    ∙ sym (passed _ _ _ _ c.in_ok-check_field.was c.check_field.ensures)

pub returns-in_err-check_field-3 : goal.returns-in_err-check_field-3
unfolding fields_refusal laid_by
returns-in_err-check_field-3 c =
    stopped _ _ _ _ _ c.in_err-check_field-3.was c.check_field-3.ensures c.from_residual-in_err-check_field-3.ensures.1
    ∙ sym (passed _ _ _ _ c.in_ok-check_field.was c.check_field.ensures ∙ passed _ _ _ _ c.in_ok-check_field-2.was c.check_field-2.ensures)

pub returns-in_err-check_field-4 : goal.returns-in_err-check_field-4
unfolding fields_refusal laid_by
returns-in_err-check_field-4 c =
    stopped _ _ _ _ _ c.in_err-check_field-4.was c.check_field-4.ensures c.from_residual-in_err-check_field-4.ensures.1
    ∙ sym (passed _ _ _ _ c.in_ok-check_field.was c.check_field.ensures
    ∙ passed _ _ _ _ c.in_ok-check_field-2.was c.check_field-2.ensures
    ∙ passed _ _ _ _ c.in_ok-check_field-3.was c.check_field-3.ensures)

pub returns : goal.returns
unfolding fields_refusal laid_by
returns c =
    c.check_field-5.ensures
    ∙ sym (passed _ _ _ _ c.in_ok-check_field.was c.check_field.ensures
    ∙ passed _ _ _ _ c.in_ok-check_field-2.was c.check_field-2.ensures
    ∙ passed _ _ _ _ c.in_ok-check_field-3.was c.check_field-3.ensures
    ∙ passed _ _ _ _ c.in_ok-check_field-4.was c.check_field-4.ensures)
