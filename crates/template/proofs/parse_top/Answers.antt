-- `parse_top` meets its contract. Assumes nothing.
use mathlib.Core.Path.{sym, ◌∙◌}
use native.Mathlib.Omega.{arith}
use Rattle.std.proofs.lemmas.Result.{err_from_is_err_and}
use Rattle.words.specs.Within.{told}
use Rattle.words.proofs.Attempts.{or_else_fit, or_else_misfit, or_else_refused}
use Rattle.building.proofs.Bounds.{room_after, keeps_after}
use Rattle.template.proofs.parse_top.Goals as goal

pub returns-in_err-brace-clause-cells_after : goal.returns-in_err-brace-clause-cells_after
unfolding told
returns-in_err-brace-clause-cells_after c =
    let p = err_from_is_err_and c.from_residual.result c.from_residual.ensures.1 in
    rw (p.1, p.2) (sym (or_else_refused _ _ _ (sym c.in_err-brace.ensures.cells_after)))

pub returns-in-Some-clause-cells_after : goal.returns-in-Some-clause-cells_after
unfolding told
returns-in-Some-clause-cells_after c = sym (or_else_fit _ _ _ _ (sym (rw c.in-Some.is at c.in_ok-brace.ensures.cells_after)))

pub parse_string_segment-requires : goal.parse_string_segment-requires
parse_string_segment-requires c = (omega arith, omega arith, room_after _ _ _ _ c.requires.1 c.parse_brace.ensures.keeps.front (omega arith))

pub returns-clause-cells_after : goal.returns-clause-cells_after
unfolding told
returns-clause-cells_after c =
    c.parse_string_segment.ensures.cells_after ∙ sym (or_else_misfit _ _ (sym (rw c.in_default.is at c.in_ok-brace.ensures.cells_after)))

pub returns-clause-keeps : goal.returns-clause-keeps
returns-clause-keeps c = keeps_after _ _ _ _ _ _ _ _ _ c.parse_brace.ensures.keeps.front (c.parse_string_segment.ensures.keeps 8)
