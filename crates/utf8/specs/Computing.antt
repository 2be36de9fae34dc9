-- Scaffolding, for proofs alone: what the definitions of this layer compute by, in one name: `unfolding computes` opens them all. Assumes nothing.
use Rattle.utf8.specs.Utf8.{within, begun, step}

unfoldable pub computes : Unit {0}
unfolding within begun step
computes = tt
