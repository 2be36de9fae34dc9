-- `widths::counting::leading` meets its contract. Assumes nothing.
use native.Mathlib.Omega.{arith}
use mathlib.Core.Path.{sym, ◌∙◌}
use Rattle.widths.proofs.Running.{leading_one, leading_two, leading_three, leading_four}
use Rattle.widths.proofs.counting.leading.Goals as goal

pub returns-in-0-to-191 : goal.returns-in-0-to-191
returns-in-0-to-191 c = sym (leading_one _ (omega arith))

pub returns-in-192-to-223 : goal.returns-in-192-to-223
returns-in-192-to-223 c = c.from.ensures ∙ sym (leading_two _ (omega arith) (omega arith))

pub returns-in-224-to-239 : goal.returns-in-224-to-239
returns-in-224-to-239 c = c.from-in-224-to-239.ensures ∙ sym (leading_three _ (omega arith) (omega arith))

pub returns-in_default : goal.returns-in_default
returns-in_default c = c.from-in_default.ensures ∙ sym (leading_four _ (omega arith))
