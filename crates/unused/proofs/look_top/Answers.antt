-- `unused::look_top` meets its contract. Assumes nothing.
use Rattle.std.proofs.Common.{ap, ◌∙◌}
use Rattle.std.specs.Prelude.{Some, None}
use Rattle.unused.specs.Looking.{look_top, tell_piece_look}
use Rattle.unused.proofs.Looked.{either_brace, either_plain}
use Rattle.unused.proofs.look_top.Goals as goal

pub returns-in-Some-clause-result_value : goal.returns-in-Some-clause-result_value
unfolding look_top
returns-in-Some-clause-result_value c = either_brace _ _ _ _ _ c.in-Some.ensures.result_value _ c.earlier.ensures

pub returns-in_err-end-clause-result_value : goal.returns-in_err-end-clause-result_value
unfolding look_top
returns-in_err-end-clause-result_value c =
    ap tell_piece_look c.from_residual.ensures ∙ either_plain _ _ _ c.in_default.ensures.result_value None c.in_err-end.ensures.value

pub returns-clause-result_value : goal.returns-clause-result_value
unfolding look_top
returns-clause-result_value c = either_plain _ _ _ c.in_default.ensures.result_value (Some c.in_ok-end.end) c.in_ok-end.ensures.value
