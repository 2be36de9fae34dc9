-- Braces, contents, items, groups and pieces, which call each other in a cycle, meet their contracts. Assumes nothing.
use Rattle.std.proofs.Common.{refl, sym, ap, ◌∙◌, arith, ◌-◌}
use Rattle.std.specs.Prelude.{Some, None, Ok, Err}
use Rattle.runs.proofs.Running.{stands_before}
use Rattle.words.proofs.Attempts.{listed_fit, further_item, further_none, repeated_fit, repeated_misfit}
use Rattle.unused.specs.Looking.{look_piece, look_group, tell_piece_look}
use Rattle.unused.proofs.Looked.{item_word, item_asked, item_group, too_deep, content_ends, brace_none, brace_is, brace_fits, either_brace, either_plain, piece_past}
use Rattle.unused.proofs.+looking.Goals as goal

pub look_brace-returns-then-not-stands_at-clause-result_value : goal.look_brace-returns-then-not-stands_at-clause-result_value
look_brace-returns-then-not-stands_at-clause-result_value t c = brace_none _ _ _ _ (sym c.stands_at.ensures ∙ c.if-not-stands_at.true)

pub look_brace-take_until_unbalanced-requires : goal.look_brace-take_until_unbalanced-requires
look_brace-take_until_unbalanced-requires t c =
    let b = stands_before _ _ _ _ (sym c.stands_at.ensures ∙ c.if-not-stands_at.false) in
    omega arith

pub look_brace-returns-in_default-clause-result_value : goal.look_brace-returns-in_default-clause-result_value
look_brace-returns-in_default-clause-result_value t c =
    brace_is _ _ _ _ (sym c.stands_at.ensures ∙ c.if-not-stands_at.false) (Ok None) (cc (c.take_until_unbalanced.ensures.value))

pub look_brace-returns-in_default-2-clause-result_value : goal.look_brace-returns-in_default-2-clause-result_value
look_brace-returns-in_default-2-clause-result_value t c =
    brace_is _ _ _ _ (sym c.stands_at.ensures ∙ c.if-not-stands_at.false) (Err c.in_default.field-0) (cc (c.take_until_unbalanced.ensures.value))

pub look_brace-returns-clause-result_value : goal.look_brace-returns-clause-result_value
look_brace-returns-clause-result_value t c =
    brace_fits _ _ _ _ (sym c.stands_at.ensures ∙ c.if-not-stands_at.false) _ (cc (c.take_until_unbalanced.ensures.value)) _ _ c.look_content-s.ensures

pub look_content-returns-then-left-eq0 : goal.look_content-returns-then-left-eq0
look_content-returns-then-left-eq0 t c = too_deep _ _ _ _ _ c.if-left-eq0.true

pub look_content-loop-c-init : goal.look_content-loop-c-init
look_content-loop-c-init t c =
    let w = c.look_item-c.ensures.within in
    (w, listed_fit _ _ _ _ _ _ _ _ (sym c.look_item-c.ensures.end_value) c.look_item-c.ensures.within.0)

pub look_content-look_item-c-requires-in-loop-c : goal.look_content-look_item-c-requires-in-loop-c
look_content-look_item-c-requires-in-loop-c t c =
    let b = stands_before _ _ _ _ (sym c.stands_at.ensures ∙ c.loop-c-test.true) in
    omega arith

pub look_content-loop-c-preserved : goal.look_content-loop-c-preserved
look_content-loop-c-preserved t c =
    let b = stands_before _ _ _ _ (sym c.stands_at.ensures ∙ c.loop-c-test.true) in
    (omega arith, further_item _ _ _ _ _ _ _ c.loop-c.invariant.1.0 c.loop-c.invariant.1.2 (cc) _ _ (sym c.look_item-c-in-loop-c.ensures.end_value) c.look_item-c-in-loop-c.ensures.within.0 c.loop-c.invariant.1.1)

pub look_content-returns : goal.look_content-returns
look_content-returns t c = content_ends _ _ _ _ _ c.if-left-eq0.false _ _ _ c.left_by.ensures (further_none _ _ _ _ _ _ _ c.loop-c.invariant.1.0 c.loop-c.invariant.1.2 (cc))

pub look_group-loop-i-init : goal.look_group-loop-i-init
unfolding look_group
look_group-loop-i-init t c = ((omega arith, omega arith), (c.args.to - c.args.from, omega arith, refl))

pub look_group-loop-i-preserved : goal.look_group-loop-i-preserved
look_group-loop-i-preserved t c =
    let w = c.in-Some.ensures.within in
    (omega arith, repeated_fit _ _ _ _ _ c.loop-i.invariant.1.0 c.loop-i.invariant.1.2 _ _ (sym c.in-Some.ensures.result_value) w.0 w.1 c.loop-i.invariant.1.1)

pub look_group-returns-in_default-clause-end_value : goal.look_group-returns-in_default-clause-end_value
look_group-returns-in_default-clause-end_value t c = repeated_misfit _ 0 _ _ _ c.loop-i.invariant.1.0 c.loop-i.invariant.1.2 (sym c.in_default.ensures.result_value)

pub look_group-returns-after-loop-i-clause-end_value : goal.look_group-returns-after-loop-i-clause-end_value
look_group-returns-after-loop-i-clause-end_value t c = repeated_misfit _ 0 _ _ _ c.loop-i.invariant.1.0 c.loop-i.invariant.1.2 (piece_past _ _ _ _ c.loop-i-test.false _)

pub look_item-returns-in-Some-clause-end_value : goal.look_item-returns-in-Some-clause-end_value
look_item-returns-in-Some-clause-end_value t c = item_word _ _ _ _ _ _ _ c.in-Some.ensures.value _ c.with_word.ensures.0 c.with_word.ensures.1

pub look_item-returns-in-Some-parameter_end-clause-end_value : goal.look_item-returns-in-Some-parameter_end-clause-end_value
look_item-returns-in-Some-parameter_end-clause-end_value t c = item_asked _ _ _ _ _ _ c.in_default.ensures.value _ c.in-Some-parameter_end.ensures.value _ c.earlier.ensures

pub look_item-returns-clause-end_value : goal.look_item-returns-clause-end_value
look_item-returns-clause-end_value t c = item_group _ _ _ _ _ _ c.in_default.ensures.value c.in_default-parameter_end.ensures.value _ _ c.look_group-g.ensures.end_value _ c.earlier-2.ensures

pub look_piece-returns-in-Some-clause-result_value : goal.look_piece-returns-in-Some-clause-result_value
unfolding look_piece
look_piece-returns-in-Some-clause-result_value t c = either_brace _ _ _ _ _ c.in-Some.ensures.result_value _ c.earlier.ensures

pub look_piece-returns-in_err-end-clause-result_value : goal.look_piece-returns-in_err-end-clause-result_value
unfolding look_piece
look_piece-returns-in_err-end-clause-result_value t c =
    ap tell_piece_look c.from_residual.ensures ∙ either_plain _ _ _ c.in_default.ensures.result_value None c.in_err-end.ensures.value

pub look_piece-returns-clause-result_value : goal.look_piece-returns-clause-result_value
unfolding look_piece
look_piece-returns-clause-result_value t c = either_plain _ _ _ c.in_default.ensures.result_value (Some c.in_ok-end.end) c.in_ok-end.ensures.value
