-- `caret::is_control` meets its contract. Assumes nothing.
use Rattle.std.proofs.Common.{◌∙◌}
use Rattle.caret.proofs.Shown.{control_is}
use Rattle.caret.proofs.is_control.Goals as goal

pub returns : goal.returns
returns c = c.is_ascii_control.ensures.value ∙ control_is c.args.b
