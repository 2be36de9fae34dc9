-- Scaffolding, for proofs alone: what the definitions of this layer compute by, in one name: `unfolding computes` opens them all. Assumes nothing.
use Rattle.outcomes.specs.Program.{refusal_line, outcome_line, record_lines, sheet_text, maybe_sheet_text, session_text, fitting, session_outcome, as_output, output}

unfoldable pub computes : Unit {0}
unfolding refusal_line outcome_line record_lines sheet_text maybe_sheet_text session_text fitting session_outcome as_output output
computes = tt
