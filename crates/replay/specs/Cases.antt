-- Scaffolding, for proofs alone: what a case of the stored list says of a sheet, and what is counted of it. Assumes nothing.
use Rattle.std.specs.Prelude.{ℕ, ◌+◌, ◌-◌, Bool, true, false, ◌&&◌, List, ◌∷◌, ◌++◌, eqb, leb}
use Rattle.buffer.specs.Bytes.{byte, bytes, same}
use Rattle.refusals.specs.declared.Refusal.{Refusal}
use Rattle.refusals.specs.Numbers.{number}
use Rattle.answer.specs.Answers.{Outcome, line, refused}
use Rattle.outcomes.specs.Program.{refusal_line, session_outcome}
use Rattle.replay.specs.declared.Tally.{Tally}
use Rattle.replay.specs.declared.Verdict.{Verdict}

-- the room that is lent: twice what an output of the list needs
abbrev pub lent_room : ℕ
lent_room = 131072

-- the line of a record's refusal, 11 to 14
abbrev pub record_refused : ℕ → List ℕ
record_refused n = bytes "! 1" ++ (byte "0" + (n - 10)) ∷ bytes "\n"

-- whether lines are what the case (N, output) says: with N 0 its output, with 11 to 14 the refusal of a record; any other N refuses the sheet
unfoldable pub said_lines : ℕ → List ℕ → List ℕ → Bool
said_lines n output s = elim (eqb n 0) [ true ↦ same s output | false ↦ leb 11 n && leb n 14 && same s (record_refused n) ]

-- whether a refusal of the whole sheet is: with N 0 by the line that the program writes for it, else by its number
unfoldable pub said_refusal : ℕ → List ℕ → Refusal → Bool
said_refusal n output r = elim (eqb n 0) [ true ↦ same (refusal_line r) output | false ↦ eqb (number r) n ]

-- whether what a session call answers is
unfoldable pub said_outcome : ℕ → List ℕ → Outcome → Bool
said_outcome n output (line s) = said_lines n output s
said_outcome n output (refused r) = said_refusal n output r

-- the verdict by a comparison
abbrev pub verdict_by : Bool → Verdict
verdict_by true = Verdict.Same
verdict_by false = Verdict.Parted

-- the verdict on a case: a listed difference, N 255, is skipped
unfoldable pub judged : ℕ → List ℕ → List ℕ → Verdict
judged n sheet output = elim (eqb n 255) [ true ↦ Verdict.Skipped | false ↦ verdict_by (said_outcome n output (session_outcome sheet lent_room)) ]

-- the tally with one more verdict
abbrev pub tally_with : Tally → Verdict → Tally
tally_with t Verdict.Same = record { run = t.run + 1; parted = t.parted; skipped = t.skipped }
tally_with t Verdict.Parted = record { run = t.run + 1; parted = t.parted + 1; skipped = t.skipped }
tally_with t Verdict.Skipped = record { run = t.run; parted = t.parted; skipped = t.skipped + 1 }
