-- Laws of measures, passed on from specs, where the laws of a sink are proved by them. Assumes nothing.
pub use Rattle.measure.specs.Measured.{small_nothing, small_grown, grown_append, grown_nil}
