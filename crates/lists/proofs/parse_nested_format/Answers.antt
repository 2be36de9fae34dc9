-- `parse_nested_format` meets its contract. Assumes nothing.
use Rattle.words.specs.Within.{told, Fitting}
use Rattle.words.specs.Trying.{◌then◌, ◌or_else◌}
use Rattle.building.specs.Reading.{percent_at}
use Rattle.building.specs.Told.{tell_pieces}
use Rattle.building.proofs.Answers.{handed_on}
use Rattle.lists.proofs.Grouped.{percent_is, asked_kept}
use Rattle.runs.proofs.Running.{stands_before}
use native.Mathlib.Omega.{arith}
use mathlib.Core.Path.{sym}
use Rattle.lists.proofs.parse_nested_format.Goals as goal

pub returns-then-not-stands_at-clause-by_index : goal.returns-then-not-stands_at-clause-by_index
unfolding told ◌then◌ percent_at
returns-then-not-stands_at-clause-by_index c = λ cells. rw (sym c.if-not-stands_at.ensures, percent_at)

pub parse_parameter-requires : goal.parse_parameter-requires
parse_parameter-requires c = let b = stands_before _ _ _ _ (sym c.if-not-stands_at.ensures) in (omega arith, omega arith, c.requires.2)

pub returns-in_err-j-clause-by_index : goal.returns-in_err-j-clause-by_index
unfolding told ◌then◌ ◌or_else◌
returns-in_err-j-clause-by_index c = λ cells. rw (handed_on _ _ c.from_residual.ensures.1) (sym (percent_is _ _ _ c.args.g cells (sym c.if-not-stands_at.ensures) _ c.in_err-j.ensures.result_value))

pub returns-in_default-clause-by_index : goal.returns-in_default-clause-by_index
unfolding told ◌then◌ ◌or_else◌
returns-in_default-clause-by_index c = λ cells. sym (percent_is _ _ _ c.args.g cells (sym c.if-not-stands_at.ensures) _ (rw c.in_default.is at c.in_ok-j.ensures.result_value))

pub returns-clause-by_index : goal.returns-clause-by_index
unfolding told ◌then◌ ◌or_else◌ tell_pieces
returns-clause-by_index c = λ cells. sym (percent_is _ _ _ c.args.g cells (sym c.if-not-stands_at.ensures) _ (rw c.in-Some.is at c.in_ok-j.ensures.result_value))

pub returns-clause-keeps : goal.returns-clause-keeps
unfolding Fitting
returns-clause-keeps c = λ n d cells h.
    let w = rw c.in-Some.is at c.in_ok-j.ensures.within in
    (omega arith, (w.1.0, asked_kept _ _ _ _ _ h w.1.1))
