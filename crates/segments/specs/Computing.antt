-- Scaffolding, for proofs alone: what the definitions of this layer compute by, in one name: `unfolding computes` opens them all. Assumes nothing.
use Rattle.segments.specs.Segments.{◌and_then◌, any_specifier, named_in}

unfoldable pub computes : Unit {0}
unfolding ◌and_then◌ any_specifier named_in
computes = tt
