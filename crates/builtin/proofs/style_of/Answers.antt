-- `builtin::style_of` meets its contract. Assumes nothing.
use Rattle.builtin.proofs.Choices.{style_default, style_one_line}
use Rattle.builtin.proofs.style_of.Goals as goal

pub returns-then-n-eq0 : goal.returns-then-n-eq0
returns-then-n-eq0 c = style_default _ c.if-n-eq0.true

pub returns : goal.returns
returns c = style_one_line _ c.if-n-eq0.false
