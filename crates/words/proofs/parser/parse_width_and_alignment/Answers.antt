-- `parse_width_and_alignment` meets its contract: each alignment by one law. Assumes nothing.
use native.Mathlib.Omega.{arith}
use mathlib.Core.Path.{refl, sym, ◌∙◌}
use Rattle.buffer.specs.Bytes.{same}
use Rattle.buffer.specs.Table.{lookup}
use Rattle.words.specs.Within.{told}
use Rattle.words.proofs.Asking.{width_end, width_aligned, width_plain}
use Rattle.words.proofs.parser.parse_width_and_alignment.Goals as goal

pub returns-then-to-from-clause-result_value : goal.returns-then-to-from-clause-result_value
unfolding told
returns-then-to-from-clause-result_value c = sym (width_end _ _ _ c.if-to-from.true)

pub returns-in-94-clause-result_value : goal.returns-in-94-clause-result_value
unfolding lookup same
returns-in-94-clause-result_value c = c.parse_digits.ensures.result_value ∙ sym (width_aligned _ _ _ c.if-to-from.false 0x5E c.in-94.is _ refl)

pub returns-in-60-clause-result_value : goal.returns-in-60-clause-result_value
unfolding lookup same
returns-in-60-clause-result_value c = c.parse_digits-in-60.ensures.result_value ∙ sym (width_aligned _ _ _ c.if-to-from.false 0x3C c.in-60.is _ refl)

pub returns-in-62-clause-result_value : goal.returns-in-62-clause-result_value
unfolding lookup same
returns-in-62-clause-result_value c = c.parse_digits-in-62.ensures.result_value ∙ sym (width_aligned _ _ _ c.if-to-from.false 0x3E c.in-62.is _ refl)

pub returns-in_default-clause-result_value : goal.returns-in_default-clause-result_value
returns-in_default-clause-result_value c =
    let no = c.in_default in
    c.parse_digits-in_default.ensures.result_value ∙ sym (width_plain _ _ _ c.if-to-from.false (λ q. omega arith) (λ q. omega arith) (λ q. omega arith))
