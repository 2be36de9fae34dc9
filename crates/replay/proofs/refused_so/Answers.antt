-- `replay::refused_so` meets its contract. Assumes nothing.
use Rattle.std.proofs.Common.{ℕ, ◌≡◌, List, length, arith, sym, ap, ◌∙◌, nat_eq}
use lib.Seq.{length-take-le}
use Rattle.buffer.specs.Bytes.{same}
use Rattle.measure.specs.declared.sink.Place.{Place}
use Rattle.outcomes.specs.Program.{refusal_line}
use Rattle.outcomes.proofs.Refusals.{refusal_most}
use Rattle.replay.proofs.Saying.{found_same, front, own_refusal, by_number}
use Rattle.replay.proofs.refused_so.Goals as goal

pub write_refusal-k-requires : goal.write_refusal-k-requires
write_refusal-k-requires c = omega (arith, refusal_most c.args.r)

pub slice_bounds-line-end : goal.slice_bounds-line-end
slice_bounds-line-end c = omega (arith, ap (λ (x : Place). x.0) c.write_refusal-k.ensures.value, refusal_most c.args.r)

pub slice_bounds-eq-end : goal.slice_bounds-eq-end
slice_bounds-eq-end c =
    sym (length-take-le c.write_refusal-k.result.0 _ (omega (arith, ap (λ (x : Place). x.0) c.write_refusal-k.ensures.value, refusal_most c.args.r)))

pub returns-then-n-eq0 : goal.returns-then-n-eq0
returns-then-n-eq0 c =
    let k : c.write_refusal-k.result.0 ≡ length (refusal_line c.args.r) = omega (arith, ap (λ (x : Place). x.0) c.write_refusal-k.ensures.value) in
    let f = front _ _ (refusal_line c.args.r) c.write_refusal-k.result.0 k c.write_refusal-k.ensures.buffer in
    found_same _ _ _ c.eq.ensures ∙ ap (λ (x : List ℕ). same x c.args.output.now) f ∙ sym (own_refusal _ _ c.args.r c.if-n-eq0.true)

pub returns : goal.returns
returns c =
    ap (λ (k : ℕ). nat_eq k c.args.n) c.number_of.ensures.0 ∙ sym (by_number _ _ c.args.r c.if-n-eq0.false)
