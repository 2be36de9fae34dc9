-- Scaffolding, for proofs alone: what the definitions of this layer compute by, in one name: `unfolding computes` opens them all. Assumes nothing.
use Rattle.parts.specs.Parts.{with_specifier, with_parameter, specified, segment_of}

unfoldable pub computes : Unit {0}
unfolding with_specifier with_parameter specified segment_of
computes = tt
