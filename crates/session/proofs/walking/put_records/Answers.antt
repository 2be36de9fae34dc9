-- `session::walking::put_records` meets its contract. Assumes nothing.
use Rattle.std.proofs.Common.{◌≡◌, refl, ◌∙◌, sym, ap, ◌+◌, ◌≤◌, length, List, ℕ, arith}
use Rattle.buffer.specs.Buffer.{put_at}
use Rattle.buffer.proofs.Writing.{put_nil, put_length}
use Rattle.answer.specs.Rooms.{outcome_by}
use Rattle.outcomes.specs.Program.{line_room, outcome_line}
use Rattle.session.specs.Walking.{records_of, lines_by}
use Rattle.session.proofs.Places.{lines_more, lines_count, lines_end, put_then}
use Rattle.session.proofs.walking.put_records.Goals as goal

pub loop-body-init : goal.loop-body-init
loop-body-init c =
    let r = c.args.reading.now in
    let e : c.into_iter-body-iterator.result ≡ records_of c.args.sheet.now = c.into_iter-body-iterator.ensures.into_iter_gives ∙ c.records-body-items.ensures.records in
    record {
      counted = omega (arith, ap (λ (x : List (List ℕ)). length (lines_by r x)) e);
      written = ap (λ (x : List (List ℕ)). put_at c.args.out.now 0 (lines_by r x)) e;
      room = refl;
    }

pub put_outcome-at-requires : goal.put_outcome-at-requires
put_outcome-at-requires c =
    let r = c.args.reading.now in
    let e = c.in-Some.ensures.steps in
    omega (arith, lines_count r _ _ _ e, c.loop-body.invariant.counted, c.loop-body.invariant.room, c.requires)

pub loop-body-preserved : goal.loop-body-preserved
loop-body-preserved c =
    let r = c.args.reading.now in
    let e = c.in-Some.ensures.steps in
    let m = lines_count r _ _ _ e in
    let one = outcome_line (outcome_by r c.in-Some.body.now line_room) in
    let rest = lines_by r c.next.new.self in
    let f : c.loop-body.at + (length one + length rest) ≤ length c.loop-body.out = omega (arith, m, c.loop-body.invariant.counted, c.loop-body.invariant.room, c.requires) in
    record {
      counted = omega (arith, c.loop-body.invariant.counted, c.put_outcome-at.ensures.0, m);
      written =
          put_then c.loop-body.out c.put_outcome-at.new.out c.loop-body.at c.put_outcome-at.result one rest c.put_outcome-at.ensures.1 c.put_outcome-at.ensures.0 f
          ∙ ap (put_at c.loop-body.out c.loop-body.at) (sym (lines_more r _ _ _ e))
          ∙ c.loop-body.invariant.written;
      room = ap length c.put_outcome-at.ensures.1 ∙ put_length c.loop-body.out c.loop-body.at one (omega (arith, f)) ∙ c.loop-body.invariant.room;
    }

pub shape_of-out : goal.shape_of-out
shape_of-out c = c.loop-body.invariant.room

pub returns : goal.returns
returns c =
    let none = lines_end c.args.reading.now _ c.in-None.ensures.steps.0 in
    sym (put_nil c.loop-body.out c.loop-body.at) ∙ ap (put_at c.loop-body.out c.loop-body.at) (sym none) ∙ c.loop-body.invariant.written
