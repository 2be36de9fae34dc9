-- Scaffolding, for proofs alone: what the definitions of this layer compute by, in one name: `unfolding computes` opens them all. Assumes nothing.
use Rattle.braces.specs.Braces.{or_neither, mark_of, past_mark, closing}

unfoldable pub computes : Unit {0}
unfolding or_neither mark_of past_mark closing
computes = tt
