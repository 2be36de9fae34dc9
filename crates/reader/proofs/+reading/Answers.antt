-- The functions that read braces, contents and groups meet their contracts. Assumes nothing.
use Rattle.std.proofs.Common.{ℕ, ◌+◌, ◌-◌, ◌≤◌, ◌≡◌, take, length, not, refl, sym, ap, ◌∙◌, arith}
use Rattle.braces.specs.Within.{ClosingWithin}
use Rattle.building.proofs.Answers.{handed_on}
use Rattle.building.proofs.Bounds.{keeps_after, fitted_moved, room_after}
use Rattle.building.specs.Reading.{brace_in, item_in, Content, inside_at, item_at, group_at, brace_at, brace_to, piece_at, no_group, Group, closed, separator}
use Rattle.building.specs.Told.{tell_items, tell_pieces, plain_piece, built_of}
use Rattle.lists.proofs.Grouped.{begins_kept, group_start, group_closes, group_refuses, piece_past, piece_is, pieces_same, pieces_after, pieces_more, pieces_room, ready_after, member_told, member_kept, pieces_linked}
use Rattle.lists.proofs.Itemed.{item_is, next_told, next_kept, items_room, items_same, items_after}
use Rattle.reader.proofs.Contained.{kept_on, brace_is, Looked, brace_read, no_brace, stood, built_last, content_is, content_begins, begins_items}
use Rattle.runs.proofs.Running.{stands_before}
use Rattle.segments.proofs.Fronts.{front_less}
use Rattle.words.proofs.Attempts.{further_item, further_ends, further_refused, further_none, repeated_fit, repeated_misfit, repeated_refused}
use Rattle.words.specs.Trying.{fit, further, repeated, listed, ◌then◌, ◌or_else◌}
use Rattle.words.specs.Within.{told, Fitting}
use Rattle.std.specs.Prelude.{Ok}
use Rattle.reader.proofs.+reading.Goals as goal
use Rattle.reader.proofs.+reading.Goals.{parse_piece-Joined-stands_at, parse_piece-then-stands_at+in_ok-brace, parse_piece-else-stands_at, parse_nested-Left-loop-i, parse_nested-else-loop-i-test, parse_nested-then-loop-i-test+in_ok-j+in_default, further_items-Left-loop-cells, further_items-else-loop-cells-test, further_items-then-loop-cells-test+in_ok-k+in_default}

-- ---- a brace

pub parse_argument-returns-then-not-stands_at-clause-cells_after : goal.parse_argument-returns-then-not-stands_at-clause-cells_after
unfolding told brace_at
parse_argument-returns-then-not-stands_at-clause-cells_after t c = rw (sym c.if-not-stands_at.ensures, brace_at)

pub parse_argument-take_until_unbalanced-requires : goal.parse_argument-take_until_unbalanced-requires
parse_argument-take_until_unbalanced-requires t c = let b = stands_before _ _ _ _ (sym c.if-not-stands_at.ensures) in omega arith

pub parse_argument-returns-in_err-c-clause-cells_after : goal.parse_argument-returns-in_err-c-clause-cells_after
unfolding told brace_to
parse_argument-returns-in_err-c-clause-cells_after t c = rw (handed_on _ _ c.from_residual.ensures.1, brace_is _ _ _ _ _ c.if-not-stands_at.ensures, ← c.in_err-c.ensures.value)

pub parse_argument-returns-in_default-clause-cells_after : goal.parse_argument-returns-in_default-clause-cells_after
unfolding told brace_to
parse_argument-returns-in_default-clause-cells_after t c = rw (brace_is _ _ _ _ _ c.if-not-stands_at.ensures, ← c.in_ok-c.ensures.value, c.in_default.is)

pub parse_argument-parse_log_segment-requires : goal.parse_argument-parse_log_segment-requires
unfolding ClosingWithin
parse_argument-parse_log_segment-requires t c =
    let b = stands_before _ _ _ _ (sym c.if-not-stands_at.ensures) in
    let h = rw c.in-Some.is at c.in_ok-c.ensures.within in
    (omega arith, (omega arith, omega arith, omega arith, c.requires.3))

pub parse_argument-returns-in_err-k-clause-cells_after : goal.parse_argument-returns-in_err-k-clause-cells_after
unfolding told brace_to ◌then◌
parse_argument-returns-in_err-k-clause-cells_after t c =
    rw (handed_on _ _ c.from_residual-in_err-k.ensures.1, brace_is _ _ _ _ _ c.if-not-stands_at.ensures, ← c.in_ok-c.ensures.value, c.in-Some.is, ← c.in_err-k.ensures.cells_after)

pub parse_argument-returns-in_default-2-clause-cells_after : goal.parse_argument-returns-in_default-2-clause-cells_after
unfolding told brace_to ◌then◌
parse_argument-returns-in_default-2-clause-cells_after t c =
    rw (brace_is _ _ _ _ _ c.if-not-stands_at.ensures, ← c.in_ok-c.ensures.value, c.in-Some.is, ← c.in_ok-k.ensures.cells_after, c.in_default-2.is)

pub parse_argument-overflow_add-result : goal.parse_argument-overflow_add-result
unfolding ClosingWithin
parse_argument-overflow_add-result t c = let h = rw c.in-Some.is at c.in_ok-c.ensures.within in omega arith

pub parse_argument-returns-clause-cells_after : goal.parse_argument-returns-clause-cells_after
unfolding told brace_to ◌then◌
parse_argument-returns-clause-cells_after t c =
    rw (brace_is _ _ _ _ _ c.if-not-stands_at.ensures, ← c.in_ok-c.ensures.value, c.in-Some.is, ← c.in_ok-k.ensures.cells_after, c.in-Some-2.is)

pub parse_argument-returns-clause-keeps : goal.parse_argument-returns-clause-keeps
unfolding Fitting ClosingWithin
parse_argument-returns-clause-keeps t c =
    let h = rw c.in-Some.is at c.in_ok-c.ensures.within in
    let w = rw c.in-Some-2.is at c.in_ok-k.ensures.keeps.within in
    record { front = c.in_ok-k.ensures.keeps.front; within = fitted_moved _ _ _ _ _ _ _ _ w _ _ _ (omega arith) (omega arith) }

-- ---- a content

pub parse_log_segment-returns-then-left-eq0-clause-cells_after : goal.parse_log_segment-returns-then-left-eq0-clause-cells_after
unfolding told inside_at
parse_log_segment-returns-then-left-eq0-clause-cells_after t c = rw c.if-left-eq0.true

pub parse_log_segment-parse_item-requires : goal.parse_log_segment-parse_item-requires
parse_log_segment-parse_item-requires t c =
    let r = c.requires.3 in
    (omega arith, (omega arith, omega arith, omega arith, r, (begins_items _ _ 0 _ _ c.no_parts.ensures r).ready))

pub parse_log_segment-further_items-requires : goal.parse_log_segment-further_items-requires
unfolding Fitting
parse_log_segment-further_items-requires t c =
    let r = c.requires.3 in
    let w = rw c.in-Some.is at (c.in_ok-j.ensures.keeps c.args.n (begins_items _ _ _ _ _ c.no_parts.ensures r)) in
    (omega arith, (w.1.0, c.requires.1, omega arith, omega arith, (c.args.n, r.linked, w.1.1)))

pub parse_log_segment-returns-in_err-j-clause-cells_after : goal.parse_log_segment-returns-in_err-j-clause-cells_after
unfolding told listed ◌then◌
parse_log_segment-returns-in_err-j-clause-cells_after t c =
    rw (handed_on _ _ c.from_residual.ensures.1, content_is _ _ _ _ _ _ c.if-left-eq0.false _ (content_begins _ _ c.args.cells.now c.no_parts.ensures), ← c.in_err-j.ensures.cells_after)

pub parse_log_segment-returns-in_default-clause-cells_after : goal.parse_log_segment-returns-in_default-clause-cells_after
unfolding told listed ◌then◌
parse_log_segment-returns-in_default-clause-cells_after t c =
    rw (content_is _ _ _ _ _ _ c.if-left-eq0.false _ (content_begins _ _ c.args.cells.now c.no_parts.ensures), ← c.in_ok-j.ensures.cells_after, c.in_default.is)

pub parse_log_segment-returns-clause-cells_after : goal.parse_log_segment-returns-clause-cells_after
unfolding told Fitting listed ◌then◌
parse_log_segment-returns-clause-cells_after t c =
    let w = rw c.in-Some.is at (c.in_ok-j.ensures.keeps c.args.n (begins_items _ _ _ _ _ c.no_parts.ensures c.requires.3)) in
    rw (content_is _ _ _ _ _ _ c.if-left-eq0.false _ (content_begins _ _ c.args.cells.now c.no_parts.ensures), ← c.in_ok-j.ensures.cells_after, c.in-Some.is)
    (c.further_items.ensures.by_index _ (omega arith))

pub parse_log_segment-returns-clause-keeps : goal.parse_log_segment-returns-clause-keeps
unfolding Fitting
parse_log_segment-returns-clause-keeps t c =
    let w = rw c.in-Some.is at (c.in_ok-j.ensures.keeps c.args.n (begins_items _ _ _ _ _ c.no_parts.ensures c.requires.3)) in
    kept_on _ _ _ _ _ _ _ _ _ _ _ w.0 (omega arith) c.parse_item.ensures.front (c.further_items.ensures.keeps _ w.1.1)

-- ---- the items after the first

pub further_items-loop-cells-init : goal.further_items-loop-cells-init
further_items-loop-cells-init t c = (omega arith, λ n h. (refl, h), λ m h. (m, h, refl))

pub further_items-parse_item-requires : goal.further_items-parse_item-requires
further_items-parse_item-requires t c =
    let b = stands_before _ _ _ _ (sym c.loop-cells-test.ensures) in
    let q = c.requires.4 in let k = c.loop-cells.invariant.1 q.0 q.2 in
    (omega arith, (omega arith, omega arith, omega arith, items_room _ _ _ _ _ _ k.1 q.1 (omega arith) refl, k.1.ready))

pub further_items-returns-in_err-k-clause-by_index : goal.further_items-returns-in_err-k-clause-by_index
unfolding told ◌then◌
further_items-returns-in_err-k-clause-by_index t c = λ m h.
    let v = c.loop-cells.invariant.2 m h in
    let s = stood _ _ c.separator_of-separator.ensures _ _ _ _ _ c.stands_at.ensures c.loop-cells-test.true in
    let w = sym {b = item_in c.args.left c.args.even c.args.t.now c.args.to (c.loop-cells.j + 1) (tell_items c.loop-cells.c c.loop-cells.cells)} c.in_err-k.ensures.cells_after in
    rw (handed_on _ _ c.from_residual.ensures.1, ← (further_refused _ _ _ _ _ _ _ v.0 v.2 s _ w v.1))

pub further_items-returns-in_err-k-clause-keeps : goal.further_items-returns-in_err-k-clause-keeps
unfolding Fitting
further_items-returns-in_err-k-clause-keeps t c = λ n h.
    let k = c.loop-cells.invariant.1 n h in
    rw (handed_on _ _ c.from_residual.ensures.1) (record { front = front_less _ _ _ c.parse_item.ensures.front _ k.1.least ∙ k.0; within = tt })

pub further_items-loop-cells-smaller : goal.further_items-loop-cells-smaller
unfolding Fitting
further_items-loop-cells-smaller t c =
    let q = c.requires.4 in let w = rw c.in-Some.is at (c.in_ok-k.ensures.keeps q.0 (c.loop-cells.invariant.1 q.0 q.2).1) in
    omega arith

pub further_items-loop-cells-preserved : goal.further_items-loop-cells-preserved
unfolding told Fitting
further_items-loop-cells-preserved t c =
    let q = c.requires.4 in let w = rw c.in-Some.is at (c.in_ok-k.ensures.keeps q.0 (c.loop-cells.invariant.1 q.0 q.2).1) in
    let r = rw c.in-Some.is at c.in_ok-k.ensures.cells_after in
    let s = stood _ _ c.separator_of-separator.ensures _ _ _ _ _ c.stands_at.ensures c.loop-cells-test.true in (
      omega arith,
      λ n h.
          let k = c.loop-cells.invariant.1 n h in
          let v = rw c.in-Some.is at (c.in_ok-k.ensures.keeps n k.1) in (front_less _ _ _ c.parse_item.ensures.front _ k.1.least ∙ k.0, v.1.1),
      λ m h.
          let v = c.loop-cells.invariant.2 m h in further_item _ _ _ _ _ _ _ v.0 v.2 s _ _ (sym r) w.0 v.1,
    )

-- where the loop ends, by its test or by an item that doesn't fit
ended : (t : ℕ) (c : further_items-Left-loop-cells t)
    → (length c.loop-cells-test.cells ≡ length c.loop-cells.cells)
    × (take c.loop-cells.c.made c.loop-cells-test.cells ≡ take c.loop-cells.c.made c.loop-cells.cells)
    × ((m : ℕ) → c.args.to - c.args.from ≤ m
    → fit (tell_items c.loop-cells.c c.loop-cells.cells) c.loop-cells.j
    ≡ further (separator c.args.even) c.args.t.now c.args.to (item_at c.args.even c.args.t.now (group_at c.args.t.now (brace_at c.args.t.now (inside_at c.args.left (not c.args.even) c.args.t.now))) c.args.to) m c.args.from (tell_items c.args.c c.args.cells.now))
unfolding told
ended t c = elim c.loop-cells-test.branch [
  | further_items-else-loop-cells-test w ↦ (
    ap length w.cells-is,
    ap (take c.loop-cells.c.made) w.cells-is,
    λ m h.
        let v = c.loop-cells.invariant.2 m h in
        further_none _ _ _ _ _ _ _ v.0 v.2 (stood _ _ c.separator_of-separator.ensures _ _ _ _ _ c.stands_at.ensures w.loop-cells-test.false),
  )
  | further_items-then-loop-cells-test+in_ok-k+in_default w ↦ (
    ap length w.cells-is ∙ w.parse_item.auto.cells,
    ap (take c.loop-cells.c.made) w.cells-is ∙ w.parse_item.ensures.front,
    λ m h.
        let v = c.loop-cells.invariant.2 m h in
        further_ends _ _ _ _ _ _ _ v.0 v.2 (stood _ _ c.separator_of-separator.ensures _ _ _ _ _ c.stands_at.ensures w.loop-cells-test.true) (sym (rw w.in_default.is at w.in_ok-k.ensures.cells_after)),
  )
]

pub further_items-build_log_segment-requires : goal.further_items-build_log_segment-requires
further_items-build_log_segment-requires t c =
    let e = ended t (goal.at.further_items-build_log_segment-requires t c).Left-loop-cells in
    let l = e.0 in
    let q = c.requires.4 in let k = c.loop-cells.invariant.1 q.0 q.2 in
    (items_room _ _ _ _ _ _ k.1 q.1 (omega arith) e.1, k.1.ready)

pub further_items-returns-clause-by_index : goal.further_items-returns-clause-by_index
further_items-returns-clause-by_index t c = λ m h.
    let e = ended t (goal.at.further_items-returns-clause-by_index t c).Left-loop-cells in
    let q = c.requires.4 in let k = c.loop-cells.invariant.1 q.0 q.2 in
    built_last _ _ _ _ (e.2 m h) _ (c.build_log_segment.ensures.cells_after ∙ ap (λ (s : Content). built_of s c.loop-cells.j) (items_same _ _ _ e.1 k.1.ready))

pub further_items-returns-clause-keeps : goal.further_items-returns-clause-keeps
further_items-returns-clause-keeps t c = λ n h.
    let e = ended t (goal.at.further_items-returns-clause-keeps t c).Left-loop-cells in
    let k = c.loop-cells.invariant.1 n h in
    keeps_after _ _ _ _ _ _ _ _ _ (front_less _ _ _ e.1 _ k.1.least ∙ k.0)
    (c.build_log_segment.ensures.keeps _ _ _ _ (omega arith) (omega arith) (items_after _ _ _ _ _ _ k.1 e.1))

-- ---- an item

pub parse_item-returns-in_err-plain-clause-cells_after : goal.parse_item-returns-in_err-plain-clause-cells_after
unfolding told ◌or_else◌
parse_item-returns-in_err-plain-clause-cells_after t c = rw (handed_on _ _ c.from_residual.ensures.1, item_is, ← c.in_err-plain.ensures.cells_after)

pub parse_item-returns-in-Some-clause-cells_after : goal.parse_item-returns-in-Some-clause-cells_after
unfolding told ◌or_else◌
parse_item-returns-in-Some-clause-cells_after t c = rw (item_is, ← c.in_ok-plain.ensures.cells_after, c.in-Some.is)

pub parse_item-returns-in-Some-clause-keeps : goal.parse_item-returns-in-Some-clause-keeps
unfolding Fitting
parse_item-returns-in-Some-clause-keeps t c = λ n h.
    let w = rw c.in-Some.is at (c.in_ok-plain.ensures.keeps n _ h) in
    (omega arith, w.1)

pub parse_item-parse_nested-requires : goal.parse_item-parse_nested-requires
parse_item-parse_nested-requires t c =
    (omega arith, (omega arith, omega arith, omega arith, room_after _ _ _ _ c.requires.3 c.parse_plain_item.ensures.front (omega arith)))

pub parse_item-returns-in_err-j-clause-cells_after : goal.parse_item-returns-in_err-j-clause-cells_after
unfolding told ◌or_else◌ ◌then◌ tell_items
parse_item-returns-in_err-j-clause-cells_after t c =
    rw (handed_on _ _ c.from_residual-in_err-j.ensures.1, item_is, ← c.in_ok-plain.ensures.cells_after, c.in_default.is, ← c.in_err-j.ensures.cells_after)

pub parse_item-returns-in_default-2-clause-cells_after : goal.parse_item-returns-in_default-2-clause-cells_after
unfolding told ◌or_else◌ ◌then◌ tell_items
parse_item-returns-in_default-2-clause-cells_after t c =
    rw (item_is, ← c.in_ok-plain.ensures.cells_after, c.in_default.is, ← c.in_ok-j.ensures.cells_after, c.in_default-2.is)

pub parse_item-returns-clause-cells_after : goal.parse_item-returns-clause-cells_after
unfolding told ◌or_else◌ ◌then◌ tell_items
parse_item-returns-clause-cells_after t c =
    rw (item_is, ← c.in_ok-plain.ensures.cells_after, c.in_default.is, ← c.in_ok-j.ensures.cells_after, c.in-Some-2.is, c.with_segment.ensures)
    (ap (λ (z : Content). fit z c.in-Some-2.j) (next_told c.args.cells.now c.parse_nested.new.cells c.args.c c.in-Some-2.k))

pub parse_item-returns-clause-keeps : goal.parse_item-returns-clause-keeps
unfolding Fitting
parse_item-returns-clause-keeps t c = λ n h.
    let w = rw c.in-Some-2.is at c.in_ok-j.ensures.keeps.within in
    (w.from, (w.end, next_kept _ _ _ _ _ _ _ _ _ _ h w _ c.with_segment.ensures))

-- ---- a group

pub parse_nested-loop-i-init : goal.parse_nested-loop-i-init
parse_nested-loop-i-init t c =
    (omega arith, refl, begins_kept _ _ _ _ _ c.no_parts.ensures c.requires.3, (c.args.to - c.args.from, omega arith, group_start _ _ _ _ _ _ c.no_parts.ensures))

pub parse_nested-parse_piece-requires : goal.parse_nested-parse_piece-requires
parse_nested-parse_piece-requires t c =
    let p = c.loop-i.invariant.2 in
    (omega arith, (omega arith, omega arith, omega arith, pieces_linked _ _ _ _ _ p (omega arith) refl, p.ready))

pub parse_nested-returns-in_err-j-clause-cells_after : goal.parse_nested-returns-in_err-j-clause-cells_after
unfolding told
parse_nested-returns-in_err-j-clause-cells_after t c =
    let v = c.loop-i.invariant.3 in
    let w = sym {b = piece_at c.args.t.now (brace_in c.args.left c.args.even c.args.t.now) c.args.to c.loop-i.i (tell_pieces c.loop-i.g c.loop-i.cells)} c.in_err-j.ensures.cells_after in
    rw (handed_on _ _ c.from_residual.ensures.1) (group_refuses _ _ _ _ _ _ refl _ (repeated_refused _ _ _ _ _ v.0 v.2 _ w c.loop-i-test.true v.1))

pub parse_nested-returns-in_err-j-clause-keeps : goal.parse_nested-returns-in_err-j-clause-keeps
unfolding Fitting
parse_nested-returns-in_err-j-clause-keeps t c =
    rw (handed_on _ _ c.from_residual.ensures.1)
    (record { front = front_less _ _ _ c.parse_piece.ensures.front _ (pieces_more _ _ _ _ c.loop-i.invariant.2) ∙ c.loop-i.invariant.1; within = tt })

pub parse_nested-loop-i-smaller : goal.parse_nested-loop-i-smaller
unfolding Fitting
parse_nested-loop-i-smaller t c =
    let w = rw c.in-Some.is at (c.in_ok-j.ensures.keeps _ c.loop-i.invariant.2) in
    omega arith

pub parse_nested-loop-i-preserved : goal.parse_nested-loop-i-preserved
unfolding told Fitting
parse_nested-loop-i-preserved t c =
    let w = rw c.in-Some.is at (c.in_ok-j.ensures.keeps _ c.loop-i.invariant.2) in
    let r = rw c.in-Some.is at c.in_ok-j.ensures.cells_after in
    let v = c.loop-i.invariant.3 in
    (omega arith, front_less _ _ _ c.parse_piece.ensures.front _ (pieces_more _ _ _ _ c.loop-i.invariant.2) ∙ c.loop-i.invariant.1, w.1.1, repeated_fit _ _ _ _ _ v.0 v.2 _ _ (sym r) w.0 w.1.0 v.1)

-- where the loop ends, by its test or by a piece that doesn't fit
closing : (t : ℕ) (c : parse_nested-Left-loop-i t)
    → (length c.loop-i-test.cells ≡ length c.loop-i.cells)
    × (take c.loop-i.g.made c.loop-i-test.cells ≡ take c.loop-i.g.made c.loop-i.cells)
    × (fit (tell_pieces c.loop-i.g c.loop-i.cells) c.loop-i.i
    ≡ repeated (piece_at c.args.t.now (brace_at c.args.t.now (inside_at c.args.left c.args.even c.args.t.now)) c.args.to) (c.args.to - c.args.from) c.args.from (no_group c.args.n))
unfolding told
closing t c =
    let v = c.loop-i.invariant.3 in
    elim c.loop-i-test.branch [
      | parse_nested-else-loop-i-test w ↦
          (ap length w.cells-is, ap (take c.loop-i.g.made) w.cells-is, repeated_misfit _ 0 _ _ _ v.0 v.2 (piece_past _ _ _ _ _ w.loop-i-test.false))
      | parse_nested-then-loop-i-test+in_ok-j+in_default w ↦ (
        ap length w.cells-is ∙ w.parse_piece.auto.cells,
        ap (take c.loop-i.g.made) w.cells-is ∙ w.parse_piece.ensures.front,
        repeated_misfit _ 0 _ _ _ v.0 v.2 (sym (rw w.in_default.is at w.in_ok-j.ensures.cells_after)),
      )
    ]

pub parse_nested-build_group-requires : goal.parse_nested-build_group-requires
parse_nested-build_group-requires t c =
    let e = closing t (goal.at.parse_nested-build_group-requires t c).Left-loop-i in
    let l = e.0 in
    (pieces_room _ _ _ _ _ _ c.loop-i.invariant.2 (omega arith) (omega arith) e.1, ready_after _ _ _ c.loop-i.invariant.2.ready e.1)

pub parse_nested-returns-clause-cells_after : goal.parse_nested-returns-clause-cells_after
parse_nested-returns-clause-cells_after t c =
    let e = closing t (goal.at.parse_nested-returns-clause-cells_after t c).Left-loop-i in
    group_closes _ _ _ _ _ _ refl _ _ e.2 _ (c.build_group.ensures.cells_after ∙ ap (λ (s : Group). closed s c.loop-i.i) (pieces_same _ _ _ c.loop-i.invariant.2.ready.last e.1))

pub parse_nested-returns-clause-keeps : goal.parse_nested-returns-clause-keeps
parse_nested-returns-clause-keeps t c =
    let e = closing t (goal.at.parse_nested-returns-clause-keeps t c).Left-loop-i in
    keeps_after _ _ _ _ _ _ _ _ _ (front_less _ _ _ e.1 _ (pieces_more _ _ _ _ c.loop-i.invariant.2) ∙ c.loop-i.invariant.1)
    (c.build_group.ensures.keeps _ _ _ _ (omega arith) (omega arith) (omega arith) (pieces_after _ _ _ _ _ c.loop-i.invariant.2 e.1))

-- ---- a piece

pub parse_piece-returns-in_err-brace-clause-cells_after : goal.parse_piece-returns-in_err-brace-clause-cells_after
unfolding told ◌or_else◌ ◌then◌ tell_pieces
parse_piece-returns-in_err-brace-clause-cells_after t c = rw (handed_on _ _ c.from_residual.ensures.1, piece_is, ← c.in_err-brace.ensures.cells_after)

-- what the look gives, where its ways meet
looked : (t : ℕ) (c : parse_piece-Joined-stands_at t)
    → Looked c.args.t.now (inside_at c.args.left c.args.even c.args.t.now) c.args.from c.args.to c.args.g.made c.args.g.last c.args.left c.args.cells.now c.if-stands_at.cells (Ok c.if-stands_at.brace)
looked t c = elim c.if-stands_at.branch [
  | parse_piece-then-stands_at+in_ok-brace w ↦
      brace_read _ _ _ _ _ _ _ _ _ _ _ _ w.cells-is (ap Ok w.brace-is) w.in_ok-brace.ensures.cells_after w.in_ok-brace.ensures.keeps w.parse_argument.auto.cells
  | parse_piece-else-stands_at w ↦ no_brace _ _ _ _ _ _ _ _ _ _ w.cells-is (ap Ok w.brace-is) (sym c.stands_at.ensures ∙ w.if-stands_at.false)
]

pub parse_piece-parse_plain_piece-requires : goal.parse_piece-parse_plain_piece-requires
parse_piece-parse_plain_piece-requires t c =
    let v = looked t (goal.at.parse_piece-parse_plain_piece-requires t c).Joined-stands_at in
    let l = v.long in
    (omega arith, omega arith, room_after _ _ _ _ c.requires.3 v.keeps.front (omega arith), ready_after _ _ _ c.requires.4 v.keeps.front)

pub parse_piece-returns-in-Some-clause-cells_after : goal.parse_piece-returns-in-Some-clause-cells_after
unfolding told Fitting ◌or_else◌ ◌then◌ tell_pieces
parse_piece-returns-in-Some-clause-cells_after t c =
    let v = looked t (goal.at.parse_piece-returns-in-Some-clause-cells_after t c).Joined-stands_at in
    let w = rw c.in-Some.is at v.keeps.within in
    rw (piece_is, ← v.told, c.in-Some.is)
    (ap (λ (z : Group). fit z c.in-Some.j) (member_told _ _ _ _ _ c.args.g _ _ c.requires.4.last v.keeps.front w _ _ c.with_member.ensures))

pub parse_piece-returns-in-Some-clause-keeps : goal.parse_piece-returns-in-Some-clause-keeps
unfolding Fitting
parse_piece-returns-in-Some-clause-keeps t c = λ n p.
    let v = looked t (goal.at.parse_piece-returns-in-Some-clause-keeps t c).Joined-stands_at in
    let w = rw c.in-Some.is at v.keeps.within in
    (w.from, (w.end, member_kept _ _ _ _ _ _ _ _ c.requires.4.last v.keeps.front w _ p _ c.is_specifier_at.ensures _ c.with_member.ensures))

pub parse_piece-returns-in-None-clause-cells_after : goal.parse_piece-returns-in-None-clause-cells_after
unfolding told ◌or_else◌ ◌then◌ tell_pieces
parse_piece-returns-in-None-clause-cells_after t c =
    let v = looked t (goal.at.parse_piece-returns-in-None-clause-cells_after t c).Joined-stands_at in
    rw (piece_is, ← v.told, c.in-None.is)
    (c.parse_plain_piece.ensures.cells_after ∙ ap (plain_piece c.args.t.now c.args.to c.args.from) (pieces_same _ _ c.args.g c.requires.4.last v.keeps.front))

pub parse_piece-returns-in-None-clause-keeps : goal.parse_piece-returns-in-None-clause-keeps
parse_piece-returns-in-None-clause-keeps t c = λ n p.
    let v = looked t (goal.at.parse_piece-returns-in-None-clause-keeps t c).Joined-stands_at in
    c.parse_plain_piece.ensures.keeps _ _ (pieces_after _ _ _ _ _ p v.keeps.front)
