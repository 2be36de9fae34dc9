-- Demand 2: "Template reading and lines equal the crate's on every input .. proved against definitions written from document 01": the line of an
-- accepted template and record is the defined one, and no other call answers a line. Assumes nothing.
use Rattle.std.specs.Prelude.{ℕ, ◌≤◌, ◌/◌, ◌%◌, ◌≡◌, true, List, [], ◌∷◌, ◌++◌, length, take, drop}
use Rattle.segments.specs.Segments.{LogSegments}
use Rattle.template.specs.Template.{read, read_by}
use Rattle.settings.specs.Bits.{edition_of}
use Rattle.sheet.specs.Sheets.{bodies, is_sheet}
use Rattle.answer.specs.Answers.{line, in_room, Meets, call_outcome, line_entry}
use Rattle.outcomes.specs.Program.{outcome_line, session_text, session_entry}
use Rattle.demands.specs.Conditions.{AcceptedCall, call_line}

-- ---- a line call

-- a buffer that holds the text x at its front and is else as it was lent, with the answer that says so
pub record HoldsAtFront (x lent left : List ℕ) (answer : ℕ) : Type 0 where
  -- "An accepted line changes only its own bytes at the front of the buffer"
  pub front : take (answer / 256) left ≡ x
  pub rest : drop (answer / 256) left ≡ drop (answer / 256) lent
  pub long : answer / 256 ≡ length x
  pub room : length x ≤ length lent

-- of a line call
pub record CallDemand2 (t : List ℕ) (settings : ℕ) (d lent : List ℕ) : Type 0 where
  -- an accepted template and record get the defined line, wherever there is room for it
  pub defined : (s : LogSegments) → AcceptedCall t settings d s → line_entry t settings d lent ≡ in_room (length lent) (call_line t settings d s)
  -- and where a line is answered, the template was read, the record passes, and the line is the one defined of them
  pub only : (left : List ℕ) (answer : ℕ) → Meets (line_entry t settings d lent) lent left answer → answer % 256 ≡ 0
      → (s : LogSegments) × AcceptedCall t settings d s × HoldsAtFront (call_line t settings d s) lent left answer

-- ---- a session

-- the lines of single calls, one for each record's bytes: "for each record its line (its line buffer holds 65,536 bytes) or `! N`, then a newline"
unfoldable pub call_lines : ℕ → List ℕ → List (List ℕ) → List ℕ
call_lines settings t [] = []
call_lines settings t (d ∷ rest) = outcome_line (call_outcome settings t d 65536) ++ call_lines settings t rest

-- d is a sheet: "Body 0: a settings byte .., then the template. Each other body is a record"; and its template is read, in the edition asked for
pub record SheetBodies (d : List ℕ) (settings : ℕ) (t : List ℕ) (records : List (List ℕ)) : Type 0 where
  pub sheet : is_sheet d ≡ true
  pub laid : bodies d ≡ (settings ∷ t) ∷ records
  pub segments : LogSegments
  pub template : read_by (edition_of settings) t ≡ read segments

-- of a session call
pub record SessionDemand2 (d lent : List ℕ) : Type 0 where
  -- an accepted sheet gets the lines of its records, each as a line call answers it
  pub defined : (settings : ℕ) (t : List ℕ) (records : List (List ℕ)) → SheetBodies d settings t records → session_text d ≡ line (call_lines settings t records)
  -- and where lines are answered, it was such a sheet, and they are those
  pub only : (left : List ℕ) (answer : ℕ) → Meets (session_entry d lent) lent left answer → answer % 256 ≡ 0
      → (settings : ℕ) × (t : List ℕ) × (records : List (List ℕ)) × SheetBodies d settings t records × HoldsAtFront (call_lines settings t records) lent left answer
