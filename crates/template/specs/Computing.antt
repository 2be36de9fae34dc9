-- Scaffolding, for proofs alone: what the definitions of this layer compute by, in one name: `unfolding computes` opens them all. Assumes nothing.
use Rattle.template.specs.Template.{with_message, ended, top_level, read_template, all_used, read_by, names_timestamp}

unfoldable pub computes : Unit {0}
unfolding with_message ended top_level read_template all_used read_by names_timestamp
computes = tt
