-- `parse_nested_argument` meets its contract. Assumes nothing.
use Rattle.words.specs.Within.{told, Fitting}
use Rattle.words.specs.Trying.{◌then◌}
use Rattle.building.specs.Reading.{inner_at}
use Rattle.building.proofs.Answers.{handed_on}
use Rattle.lists.proofs.parse_nested_argument.Goals as goal

pub make_specified-requires : goal.make_specified-requires
unfolding Fitting
make_specified-requires c = let w = rw c.in-Some.is at c.in_ok-j.ensures.within in (c.requires.2, w.1.1)

pub returns-in_err-j-clause-cells_after : goal.returns-in_err-j-clause-cells_after
unfolding told ◌then◌ inner_at
returns-in_err-j-clause-cells_after c = rw (handed_on _ _ c.from_residual.ensures.1, ← c.in_err-j.ensures.result_value)

pub returns-in_default-clause-cells_after : goal.returns-in_default-clause-cells_after
unfolding told ◌then◌ inner_at
returns-in_default-clause-cells_after c = rw (← c.in_ok-j.ensures.result_value, c.in_default.is)

pub returns-clause-cells_after : goal.returns-clause-cells_after
unfolding told ◌then◌ inner_at
returns-clause-cells_after c = rw (← c.in_ok-j.ensures.result_value, c.in-Some.is) c.make_specified.ensures.cells_after

pub returns-clause-front : goal.returns-clause-front
unfolding Fitting
returns-clause-front c =
    let w = rw c.in-Some.is at c.in_ok-j.ensures.within in
    (c.make_specified.ensures.keeps _ _ 0 w.0 w.1.0 tt).front

pub returns-clause-keeps : goal.returns-clause-keeps
unfolding Fitting
returns-clause-keeps c = λ d.
    let w = rw c.in-Some.is at c.in_ok-j.ensures.within in
    c.make_specified.ensures.keeps _ _ d w.0 w.1.0 tt
