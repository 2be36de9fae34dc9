-- `outcomes::put_outcome` meets its contract. Assumes nothing.
use native.Mathlib.Omega.{arith}
use Rattle.outcomes.proofs.Answered.{measured, line_written, refused_shown}
use Prim.Native.Nat.{ℕ, ◌+◌}
use mathlib.Core.Path.{sym, ap, ◌∙◌}
use mathlib.Core.List.{List}
use lib.ListN.{length}
use Rattle.buffer.specs.Buffer.{put_at}
use Rattle.answer.specs.Rooms.{outcome_by}
use Rattle.measure.specs.declared.sink.Place.{Place}
use Rattle.outcomes.specs.Program.{line_room}
use Rattle.outcomes.proofs.put_outcome.Goals as goal

pub overflow_add-at : goal.overflow_add-at
overflow_add-at c =
    let m = measured c.args.reading.now c.args.d.now c.in-Ok.k (sym c.in-Ok.is ∙ c.measure_record-a.ensures) in
    omega (arith, m.0, c.requires)

pub put-requires : goal.put-requires
put-requires c =
    let m = measured c.args.reading.now c.args.d.now c.in-Ok.k (sym c.in-Ok.is ∙ c.measure_record-a.ensures) in
    omega (arith, m.0, c.requires)

pub write_refusal-requires : goal.write_refusal-requires
write_refusal-requires c =
    let o = outcome_by c.args.reading.now c.args.d.now line_room in
    let e = refused_shown o c.in-Err.r (sym c.in-Err.is ∙ c.measure_record-a.ensures) in
    omega (arith, ap length e, c.requires)

pub returns-in-Ok : goal.returns-in-Ok
returns-in-Ok c =
    let m = measured c.args.reading.now c.args.d.now c.in-Ok.k (sym c.in-Ok.is ∙ c.measure_record-a.ensures) in
    let w = line_written c.args.reading.now c.args.d.now c.in-Ok.k (sym c.in-Ok.is ∙ c.measure_record-a.ensures) in
    (omega (arith, m.0, c.put.ensures.0), w c.args.out.now c.record_line.new.out c.put.new.dst c.args.at c.requires c.record_line.ensures.buffer c.put.ensures.1)

pub returns-in-Err : goal.returns-in-Err
returns-in-Err c =
    let o = outcome_by c.args.reading.now c.args.d.now line_room in
    let e = refused_shown o c.in-Err.r (sym c.in-Err.is ∙ c.measure_record-a.ensures) in
    (ap (λ (x : Place). x.0) c.write_refusal.ensures.value ∙ ap (λ (l : List ℕ). c.args.at + length l) (sym e), c.write_refusal.ensures.buffer ∙ ap (put_at c.args.out.now c.args.at) (sym e))
