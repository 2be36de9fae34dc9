-- Scaffolding, for proofs alone: what the definitions of this layer compute by, in one name: `unfolding computes` opens them all. Assumes nothing.
use Rattle.paths.specs.Paths.{before_first, pieces, is_dropped, kept, root, starts_with_dot, leading_dot, components, last_of, slashed, joined_by_slash, file_name, after_byte, before_colons}

unfoldable pub computes : Unit {0}
unfolding before_first pieces is_dropped kept root starts_with_dot leading_dot components last_of slashed joined_by_slash file_name after_byte before_colons
computes = tt
