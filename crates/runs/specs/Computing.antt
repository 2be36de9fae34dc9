-- Scaffolding, for proofs alone: what the definitions of this layer compute by, in one name: `unfolding computes` opens them all. Assumes nothing.
use Rattle.runs.specs.Runs.{letter, digit, lower, lowered, decimal, stands, run_end}

unfoldable pub computes : Unit {0}
unfolding letter digit lower lowered decimal stands run_end
computes = tt
