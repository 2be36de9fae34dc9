-- `parse_plain_piece` meets its contract. Assumes nothing.
use Rattle.words.specs.Within.{told, Fitting}
use Rattle.words.specs.Trying.{fit, ◌then◌, ◌or_else◌}
use Rattle.building.specs.Reading.{Group, percent_at, with_asked}
use Rattle.building.specs.Told.{tell_pieces, plain_piece}
use Rattle.building.proofs.Answers.{handed_on}
use Rattle.lists.proofs.Grouped.{text_direct, member_told, member_kept, pieces_same, pieces_after}
use mathlib.Core.Path.{ap, ◌∙◌}
use Rattle.lists.proofs.parse_plain_piece.Goals as goal

pub returns-in_err-j-clause-cells_after : goal.returns-in_err-j-clause-cells_after
unfolding told ◌then◌ ◌or_else◌ plain_piece tell_pieces
returns-in_err-j-clause-cells_after c = rw (handed_on _ _ c.from_residual.ensures.1, ← c.in_err-j.ensures.cells_after)

pub returns-in_err-j-clause-front : goal.returns-in_err-j-clause-front
returns-in_err-j-clause-front c = (c.parse_string_segment.ensures.keeps 0).front

pub returns-in-Some-clause-cells_after : goal.returns-in-Some-clause-cells_after
unfolding told Fitting ◌then◌ ◌or_else◌ plain_piece tell_pieces
returns-in-Some-clause-cells_after c =
    let v = rw c.in-Some.is at (c.in_ok-j.ensures.keeps 0).within in
    rw (← c.in_ok-j.ensures.cells_after, c.in-Some.is) (ap (λ (z : Group). fit z c.in-Some.j) (member_told _ _ _ _ _ c.args.g _ _ c.requires.3.last (c.in_ok-j.ensures.keeps 0).front v _ _ c.with_member.ensures))

pub returns-in-Some-clause-front : goal.returns-in-Some-clause-front
returns-in-Some-clause-front c = (c.parse_string_segment.ensures.keeps 0).front

pub returns-in-Some-clause-keeps : goal.returns-in-Some-clause-keeps
unfolding told Fitting
returns-in-Some-clause-keeps c = λ n d h.
    let w = rw c.in-Some.is at (c.in_ok-j.ensures.keeps d).within in
    let r = rw c.in-Some.is at c.in_ok-j.ensures.cells_after in
    (w.from, (w.end, member_kept _ _ _ _ _ _ _ _ c.requires.3.last (c.in_ok-j.ensures.keeps 0).front w _ h _ (text_direct _ _ _ _ _ _ _ r) _ c.with_member.ensures))

pub returns-in-None-clause-cells_after : goal.returns-in-None-clause-cells_after
unfolding told ◌then◌ ◌or_else◌ plain_piece tell_pieces
returns-in-None-clause-cells_after c =
    rw (← c.in_ok-j.ensures.cells_after, c.in-None.is)
    (c.parse_nested_format.ensures.by_index _
    ∙ ap (λ (s : Group). percent_at c.args.t.now c.args.from c.args.to then λ y j. fit (with_asked s y) j) (pieces_same _ _ c.args.g c.requires.3.last (c.in_ok-j.ensures.keeps 0).front))

pub returns-in-None-clause-front : goal.returns-in-None-clause-front
returns-in-None-clause-front c = (c.parse_string_segment.ensures.keeps 0).front

pub returns-in-None-clause-keeps : goal.returns-in-None-clause-keeps
returns-in-None-clause-keeps c = λ n d h. c.parse_nested_format.ensures.keeps n d _ (pieces_after _ _ _ _ _ h (c.in_ok-j.ensures.keeps 0).front)
