-- `parse_even_item` meets its contract. Assumes nothing.
use Rattle.words.specs.Within.{told, Fitting}
use Rattle.words.specs.Trying.{fit, ◌then◌, ◌or_else◌}
use Rattle.building.specs.Reading.{Content, with_words}
use Rattle.building.specs.Told.{tell_items, plain_item}
use Rattle.building.proofs.Answers.{handed_on}
use Rattle.lists.proofs.Itemed.{even_asked, items_after, next_told, next_kept, words_kept}
use mathlib.Core.Path.{ap}
use Rattle.lists.proofs.parse_even_item.Goals as goal

pub returns-in_err-j-clause-cells_after : goal.returns-in_err-j-clause-cells_after
unfolding told ◌then◌ ◌or_else◌ plain_item tell_items
returns-in_err-j-clause-cells_after c = rw (handed_on _ _ c.from_residual.ensures.1, ← c.in_err-j.ensures.cells_after)

pub returns-in-Some-clause-cells_after : goal.returns-in-Some-clause-cells_after
unfolding told ◌then◌ ◌or_else◌ plain_item tell_items
returns-in-Some-clause-cells_after c =
    rw (← c.in_ok-j.ensures.cells_after, c.in-Some.is, c.with_segment.ensures) (ap (λ (z : Content). fit z c.in-Some.j) (next_told c.args.cells.now c.parse_nested_argument.new.cells c.args.c c.in-Some.k))

pub returns-in-Some-clause-keeps : goal.returns-in-Some-clause-keeps
unfolding Fitting
returns-in-Some-clause-keeps c = λ n d h.
    let w = rw c.in-Some.is at (c.in_ok-j.ensures.keeps d).within in
    (w.from, (w.end, next_kept _ _ _ _ _ _ _ _ _ _ h w _ c.with_segment.ensures))

pub returns-in_err-j-2-clause-cells_after : goal.returns-in_err-j-2-clause-cells_after
unfolding told ◌then◌
returns-in_err-j-2-clause-cells_after c =
    rw (handed_on _ _ c.from_residual-in_err-j-2.ensures.1)
    (even_asked _ _ _ c.args.c _ _ c.in_ok-j.ensures.front c.requires.3 (rw c.in_default.is at c.in_ok-j.ensures.cells_after) _ c.in_err-j-2.ensures.result_value)

pub returns-in_default-2-clause-cells_after : goal.returns-in_default-2-clause-cells_after
unfolding told ◌then◌
returns-in_default-2-clause-cells_after c =
    even_asked _ _ _ c.args.c _ _ c.in_ok-j.ensures.front c.requires.3 (rw c.in_default.is at c.in_ok-j.ensures.cells_after)
    _ (rw c.in_default-2.is at c.in_ok-j-2.ensures.result_value)

pub returns-clause-cells_after : goal.returns-clause-cells_after
unfolding told ◌then◌ tell_items with_words
returns-clause-cells_after c =
    even_asked _ _ _ c.args.c _ _ c.in_ok-j.ensures.front c.requires.3 (rw c.in_default.is at c.in_ok-j.ensures.cells_after)
    _ (rw c.in-Some-2.is at c.in_ok-j-2.ensures.result_value)

pub returns-clause-keeps : goal.returns-clause-keeps
unfolding Fitting
returns-clause-keeps c = λ n d h.
    let w = rw c.in-Some-2.is at c.in_ok-j-2.ensures.within in
    (w.0, (w.1.0, words_kept _ _ _ _ _ _ (items_after _ _ _ _ _ _ h c.in_ok-j.ensures.front) w.1.1))
