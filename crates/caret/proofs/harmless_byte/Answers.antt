-- `caret::harmless_byte` meets its contract. Assumes nothing.
use mathlib.Core.Path.{sym, ◌∙◌}
use Rattle.caret.proofs.Shown.{harmless_control, harmless_two, harmless_as_it_is}
use Rattle.caret.proofs.harmless_byte.Goals as goal

pub returns-then-is_control : goal.returns-then-is_control
returns-then-is_control c = sym (harmless_control _ _ (sym c.is_control.ensures ∙ c.if-is_control.true))

pub returns-then-ends_control : goal.returns-then-ends_control
returns-then-ends_control c = sym (harmless_two _ _ (sym c.is_control.ensures ∙ c.if-is_control.false) (sym c.ends_control.ensures ∙ c.if-ends_control.true))

pub returns : goal.returns
returns c = sym (harmless_as_it_is _ _ (sym c.is_control.ensures ∙ c.if-is_control.false) (sym c.ends_control.ensures ∙ c.if-ends_control.false))
