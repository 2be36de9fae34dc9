-- `pralakuon::write_record` is safe and ends: the buffer holds the line of any record. Assumes nothing.
use Rattle.std.proofs.Common.{arith, sym, length, ◌≤◌}
use lib.Seq.{length-take-le}
use Rattle.answer.specs.Rooms.{outcome_by}
use Rattle.outcomes.specs.Program.{line_room, outcome_line}
use Rattle.outcomes.proofs.Answered.{outcome_most}
use Rattle.pralakuon.proofs.write_record.Goals as goal

pub put_outcome-k-requires : goal.put_outcome-k-requires
put_outcome-k-requires g c =
    let r = c.args.reading.now in
    omega (arith, outcome_most r c.args.body.now)

pub slice_bounds-line-end : goal.slice_bounds-line-end
slice_bounds-line-end g c =
    let r = c.args.reading.now in
    omega (arith, c.put_outcome-k.ensures.0, outcome_most r c.args.body.now)

pub slice_bounds-written-end : goal.slice_bounds-written-end
slice_bounds-written-end g c =
    let r = c.args.reading.now in
    let m = outcome_most r c.args.body.now in
    sym (length-take-le c.put_outcome-k.result _ (omega (arith, c.put_outcome-k.ensures.0, m)))
