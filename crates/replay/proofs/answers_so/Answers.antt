-- `replay::answers_so` meets its contract. Assumes nothing.
use Rattle.std.proofs.Common.{ℕ, ◌≡◌, List, length, arith, sym, ◌∙◌}
use lib.ListN.{replicate, length-replicate}
use lib.Seq.{length-take-le}
use Rattle.replay.proofs.Saying.{line_said, refusal_said}
use Rattle.replay.proofs.answers_so.Goals as goal

-- what the call is lent
abbrev lent : List ℕ
lent = replicate 131072 0

lent_room_lem : length lent ≡ 131072
lent_room_lem = length-replicate {A = ℕ} 131072 0

pub slice_bounds-written-end : goal.slice_bounds-written-end
slice_bounds-written-end c =
    let l = line_said c.args.n c.args.output.now c.args.sheet.now lent c.session-a.new.out lent_room_lem c.in-Ok.k c.in-Ok.ensures.answer c.session-a.ensures.buffer in
    omega (arith, l.0)

pub slice_bounds-lines_so-end : goal.slice_bounds-lines_so-end
slice_bounds-lines_so-end c =
    let l = line_said c.args.n c.args.output.now c.args.sheet.now lent c.session-a.new.out lent_room_lem c.in-Ok.k c.in-Ok.ensures.answer c.session-a.ensures.buffer in
    sym (length-take-le c.in-Ok.k _ (omega (arith, l.0)))

pub returns-in-Ok : goal.returns-in-Ok
returns-in-Ok c =
    let l = line_said c.args.n c.args.output.now c.args.sheet.now lent c.session-a.new.out lent_room_lem c.in-Ok.k c.in-Ok.ensures.answer c.session-a.ensures.buffer in
    c.lines_so.ensures ∙ l.1

pub returns-in-Err : goal.returns-in-Err
returns-in-Err c =
    c.refused_so.ensures ∙ refusal_said c.args.n c.args.output.now c.args.sheet.now lent c.session-a.new.out lent_room_lem _ c.in-Err.ensures.answer
