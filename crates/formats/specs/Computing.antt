-- Scaffolding, for proofs alone: what the definitions of this layer compute by, in one name: `unfolding computes` opens them all. Assumes nothing.
use Rattle.formats.specs.Formats.{format_for}

unfoldable pub computes : Unit {0}
unfolding format_for
computes = tt
