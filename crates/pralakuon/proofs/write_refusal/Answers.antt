-- `pralakuon::write_refusal` is safe and ends. Assumes nothing.
use Rattle.std.proofs.Common.{arith, sym, ap}
use lib.Seq.{length-take-le}
use Rattle.measure.specs.declared.sink.Place.{Place}
use Rattle.outcomes.proofs.Refusals.{refusal_most}
use Rattle.pralakuon.proofs.write_refusal.Goals as goal

pub write_refusal-n-requires : goal.write_refusal-n-requires
write_refusal-n-requires g c = omega (arith, refusal_most c.args.r)

pub slice_bounds-line-end : goal.slice_bounds-line-end
slice_bounds-line-end g c = omega (arith, ap (λ (x : Place). x.0) c.write_refusal-n.ensures.value, refusal_most c.args.r)

pub slice_bounds-written-end : goal.slice_bounds-written-end
slice_bounds-written-end g c =
    sym (length-take-le c.write_refusal-n.result.0 _ (omega (arith, ap (λ (x : Place). x.0) c.write_refusal-n.ensures.value, refusal_most c.args.r)))
