-- Scaffolding, for proofs alone: what the definitions of this layer compute by, in one name: `unfolding computes` opens them all. Assumes nothing.
use Rattle.points.specs.Decoding.{size_of, point}
use Rattle.points.specs.Ranges.{among}

unfoldable pub computes : Unit {0}
unfolding size_of point among
computes = tt
