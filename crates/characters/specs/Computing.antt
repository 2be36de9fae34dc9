-- Scaffolding, for proofs alone: what the definitions of this layer compute by, in one name: `unfolding computes` opens them all. Assumes nothing.
use Rattle.characters.specs.Characters.{begins}

unfoldable pub computes : Unit {0}
unfolding begins
computes = tt
