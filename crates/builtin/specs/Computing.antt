-- Scaffolding, for proofs alone: what the definitions of this layer compute by, in one name: `unfolding computes` opens them all. Assumes nothing.
use Rattle.builtin.specs.Builtins.{builtin, for_host}

unfoldable pub computes : Unit {0}
unfolding builtin for_host
computes = tt
