-- `outcomes::outcome_length` meets its contract. Assumes nothing.
use native.Mathlib.Omega.{arith}
use Rattle.outcomes.proofs.Answered.{measured, refused_shown}
use mathlib.Core.Path.{sym, ap, ◌∙◌}
use lib.ListN.{length}
use Rattle.answer.specs.Rooms.{outcome_by}
use Rattle.measure.specs.declared.sink.Count.{Count}
use Rattle.outcomes.specs.Program.{line_room, refusal_line}
use Rattle.outcomes.proofs.Refusals.{refusal_most}
use mathlib.Core.Path.{◌≡◌}
use Rattle.outcomes.proofs.outcome_length.Goals as goal

pub overflow_add-result : goal.overflow_add-result
overflow_add-result c =
    let m = measured c.args.reading.now c.args.d.now c.in-Ok.k (sym c.in-Ok.is ∙ c.measure_record-a.ensures) in
    omega (arith, m)

pub returns-in-Ok : goal.returns-in-Ok
returns-in-Ok c =
    let m = measured c.args.reading.now c.args.d.now c.in-Ok.k (sym c.in-Ok.is ∙ c.measure_record-a.ensures) in
    (omega (arith, m.0), omega (arith, m.1))

pub write_refusal-requires : goal.write_refusal-requires
write_refusal-requires c = omega (arith, refusal_most c.in-Err.r)

pub returns-in-Err : goal.returns-in-Err
returns-in-Err c =
    let o = outcome_by c.args.reading.now c.args.d.now line_room in
    let e = refused_shown o c.in-Err.r (sym c.in-Err.is ∙ c.measure_record-a.ensures) in
    let n : c.write_refusal.result.0 ≡ length (refusal_line c.in-Err.r) = omega (arith, ap (λ (x : Count). x.0) c.write_refusal.ensures.value) in
    (n ∙ ap length (sym e), omega (arith, n, refusal_most c.in-Err.r))
