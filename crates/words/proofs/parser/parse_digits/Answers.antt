-- `parse_digits` meets its contract. Assumes nothing.
use mathlib.Core.Path.{sym}
use native.Mathlib.Omega.{arith}
use Rattle.words.specs.Within.{told}
use Rattle.words.proofs.Asking.{digits_none, digits_wide, digits_fit}
use Rattle.words.proofs.parser.parse_digits.Goals as goal

pub returns-then-j-from-clause-result_value : goal.returns-then-j-from-clause-result_value
unfolding told
returns-then-j-from-clause-result_value c = sym (digits_none _ _ _ _ _ c.digits_end-j.ensures.value c.if-j-from.true)

pub returns-in_default-clause-result_value : goal.returns-in_default-clause-result_value
unfolding told
returns-in_default-clause-result_value c = sym (digits_wide _ _ _ _ _ c.digits_end-j.ensures.value c.if-j-from.false c.in_default.ensures)

pub returns-clause-result_value : goal.returns-clause-result_value
unfolding told
returns-clause-result_value c = sym (digits_fit _ _ _ _ _ c.digits_end-j.ensures.value c.if-j-from.false (omega arith) _ c.in-Some.ensures _ c.padding-z.ensures)
