-- Scaffolding, for proofs alone: the laws of each sink. Assumes nothing.
use Rattle.std.proofs.Common.{refl, ℕ, ◌+◌, ◌<◌, ◌≤◌, ◌^◌, List, length, ap, arith, length-append, add-zero}
use Rattle.buffer.specs.Buffer.{put_at}
use Rattle.buffer.proofs.Writing.{put_put, put_length, put_nil}
use Rattle.measure.specs.declared.Measure.{Measure}
use Rattle.measure.specs.declared.sink.Count.{Count}
use Rattle.measure.specs.declared.sink.Place.{Place}
use Rattle.measure.specs.Measures.{grown, Measurable}
use Rattle.measure.specs.Measured.{small_grown, grown_append, grown_nil}
use Rattle.measure.specs.Sinks.{SinkLaws, count_after, place_after}

-- the measure of texts has few bytes
abbrev pub Measured : Measure → List ℕ → List ℕ → Type 0
Measured a d s = Measurable a (length s)

pub measured_laws : SinkLaws Measured grown (λ a d s. d)
measured_laws = record {
  fits_first = λ a d s t h. (h.0, omega (arith, length-append s t));
  fits_then = λ a d s t h. (small_grown a s h.0, omega (arith, length-append s t));
  after_both = grown_append;
  left_both = λ a d s t h. refl;
  after_none = grown_nil;
  left_none = λ a d. refl;
}

-- the count has a number for them
abbrev pub Counted : Count → List ℕ → List ℕ → Type 0
Counted n d s = n.0 + length s < 2 ^ 64

pub counted_laws : SinkLaws Counted count_after (λ n d s. d)
counted_laws = record {
  fits_first = λ n d s t h. omega (arith, length-append s t);
  fits_then = λ n d s t h. omega (arith, length-append s t);
  after_both = λ n s t. ap (λ k. record { 0 = k }) (omega (arith, length-append s t));
  left_both = λ n d s t h. refl;
  after_none = λ n. ap (λ k. record { 0 = k }) (add-zero n.0);
  left_none = λ n d. refl;
}

-- there is room from the place on
abbrev pub HasRoom : Place → List ℕ → List ℕ → Type 0
HasRoom at d s = at.0 + length s ≤ length d

pub placed_laws : SinkLaws HasRoom place_after (λ at d s. put_at d at.0 s)
placed_laws = record {
  fits_first = λ at d s t h. omega (arith, length-append s t);
  fits_then = λ at d s t h. omega (arith, length-append s t, put_length d at.0 s (omega (arith, length-append s t)));
  after_both = λ at s t. ap (λ k. record { 0 = k }) (omega (arith, length-append s t));
  left_both = λ at d s t h. put_put d at.0 (at.0 + length s) s t refl (omega (arith, length-append s t));
  after_none = λ at. ap (λ k. record { 0 = k }) (add-zero at.0);
  left_none = λ at d. put_nil d at.0;
}
