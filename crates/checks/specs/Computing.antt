-- Scaffolding, for proofs alone: what the definitions of this layer compute by, in one name: `unfolding computes` opens them all. Assumes nothing.
use Rattle.checks.specs.Checks.{bad_numbers, absent_but_there, absent_field, badly_marked, field_refusal, or_next, fields_refusal, record_refusal}

unfoldable pub computes : Unit {0}
unfolding bad_numbers absent_but_there absent_field badly_marked field_refusal or_next fields_refusal record_refusal
computes = tt
