-- Scaffolding, for proofs alone: what the definitions of this layer compute by, in one name: `unfolding computes` opens them all. Assumes nothing.
use Rattle.answer.specs.Answers.{in_room, passed, record_outcome, by_template, outcome, buffer_after, packed, is_call, call_outcome, answer_of}

unfoldable pub computes : Unit {0}
unfolding in_room passed record_outcome by_template outcome buffer_after packed is_call call_outcome answer_of
computes = tt
