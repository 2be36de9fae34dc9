-- What a session call answers for a sheet, and what the program writes for it (document 01, "Session sheet and its program"). Assumes nothing.
use Rattle.std.specs.Prelude.{ℕ, ◌≡◌, refl, List, [], ◌∷◌, ◌++◌, length}
use Rattle.buffer.specs.Bytes.{bytes}
use Rattle.buffer.specs.Table.{Maybe, none, some}
use Rattle.refusals.specs.declared.Refusal.{Refusal}
use Rattle.refusals.specs.Numbers.{number}
use Rattle.segments.specs.Segments.{LogSegments}
use Rattle.template.specs.Template.{Template, read, refusal, read_by}
use Rattle.fields.specs.Texts.{digits, decimal_text}
use Rattle.record.specs.Layout.{Laid}
use Rattle.answer.specs.Answers.{Outcome, line, refused, in_room, record_outcome}
use Rattle.settings.specs.Bits.{settings_of, edition_of, form_of}
use Rattle.sheet.specs.Sheets.{Sheet, sheet_of}
use Rattle.sheet.specs.Computing as sheet

-- "`! N`, then a newline"
unfoldable pub refusal_line : Refusal → List ℕ
refusal_line r = bytes "! " ++ (decimal_text (number r) ++ bytes "\n")

-- "for each record its line or `! N`, then a newline"
unfoldable pub outcome_line : Outcome → List ℕ
outcome_line (line s) = s ++ bytes "\n"
outcome_line (refused r) = refusal_line r

-- "its line buffer holds 65,536 bytes"
abbrev pub line_room : ℕ
line_room = 65536

-- the lines of the records, one after the other
unfoldable pub record_lines : Sheet → LogSegments → List Laid → List ℕ
record_lines h s [] = []
record_lines h s (d ∷ rest) = outcome_line (record_outcome (form_of h.settings) (settings_of h.settings) h.template s d line_room) ++ record_lines h s rest

-- the lines of a sheet's records, or the refusal of the whole sheet
unfoldable pub sheet_text : Sheet → Template → Outcome
sheet_text h (read s) = line (record_lines h s h.records)
sheet_text h (refusal r) = refused r

-- "Order: 15; 1; 2; .."
unfoldable pub maybe_sheet_text : Maybe Sheet → Outcome
maybe_sheet_text none = refused Refusal.NotASheet
maybe_sheet_text (some h) = sheet_text h (read_by (edition_of h.settings) h.template)

-- the lines of all records of the sheet d, or its refusal
unfoldable pub session_text : List ℕ → Outcome
session_text d = maybe_sheet_text (sheet_of d)

-- refusal 13 concerns the output of an accepted sheet: the lines of all its records, where there is room for them
unfoldable pub fitting : ℕ → Outcome → Outcome
fitting room (line s) = in_room room s
fitting room (refused r) = refused r

-- what a session call answers, with so much room in the lent buffer
unfoldable pub session_outcome : List ℕ → ℕ → Outcome
session_outcome d room = fitting room (session_text d)

-- the same, with a lent buffer
abbrev pub session_entry : List ℕ → List ℕ → Outcome
session_entry d lent = session_outcome d (length lent)

-- "for 1 to 10 and 15 a single `! N` and newline for the whole sheet" (10 is no longer given, and 17 is another)
unfoldable pub as_output : Outcome → List ℕ
as_output (line s) = s
as_output (refused r) = refusal_line r

-- the program's whole output
unfoldable pub output : List ℕ → List ℕ
output d = as_output (session_text d)

-- the empty sheet, with room for `! 15` and without: the call answers 15 both times, and the program says so
empty_refused : (session_outcome [] 5 ∷ session_outcome [] 4 ∷ [] ≡ refused Refusal.NotASheet ∷ refused Refusal.NotASheet ∷ []) × (output [] ≡ bytes "! 15\n")
unfolding sheet.computes maybe_sheet_text session_text fitting session_outcome refusal_line decimal_text digits as_output output
empty_refused = (refl, refl)
