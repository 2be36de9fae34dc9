-- Scaffolding, for proofs alone: an open sheet by places in it, and the lines of its records as the code walks along them. Assumes nothing.
use Rattle.std.specs.Prelude.{Result, Ok, Err, ℕ, ◌+◌, ◌-◌, ◌*◌, ◌≤◌, ◌≡◌, Bool, true, false, List, [], ◌∷◌, ◌++◌, length, get_or}
use Rattle.buffer.specs.Bytes.{part}
use Rattle.buffer.specs.Table.{Maybe, none, some}
use Rattle.refusals.specs.declared.Refusal.{Refusal}
use Rattle.segments.specs.declared.Cell.{Cell}
use Rattle.segments.specs.Segments.{LogSegments}
use Rattle.segments.specs.Pool.{chain_at}
use Rattle.template.specs.Template.{Template, read, refusal, read_by}
use Rattle.record.specs.declared.Form.{Form}
use Rattle.record.specs.Layout.{u32, laid_out}
use Rattle.colour.specs.declared.Settings.{Settings}
use Rattle.answer.specs.Answers.{record_outcome}
use Rattle.answer.specs.Maker.{Maker, maker_of, IsRead}
use Rattle.answer.specs.Rooms.{outcome_by}
use Rattle.settings.specs.Bits.{settings_of, edition_of, form_of}
use Rattle.sheet.specs.Sheets.{Sheet, body_count, contents_end, bodies_from, body_bytes, is_sheet, sheet_of}
use Rattle.outcomes.specs.Program.{line_room, outcome_line}

-- ---- opening a sheet

-- the bytes, where they are a sheet; else refusal 15
unfoldable pub sheet_or : Bool → List ℕ → Result (List ℕ) Refusal
sheet_or true d = Ok d
sheet_or false d = Err Refusal.NotASheet

unfoldable pub opened_by : Maybe Sheet → Template
opened_by none = refusal Refusal.NotASheet
opened_by (some h) = read_by (edition_of h.settings) h.template

-- refusal 15 of the whole sheet, or what its template gives
unfoldable pub opening : List ℕ → Template
opening d = opened_by (sheet_of d)

-- what the code's answer says, with the pool it has filled
unfoldable pub tell_opened : Result ℕ Refusal → List Cell → Template
tell_opened (Ok n) cells = read (chain_at cells n)
tell_opened (Err r) cells = refusal r

-- ---- places of an open sheet

-- the settings byte: the first of body 0
abbrev pub settings_in : List ℕ → ℕ
settings_in d = get_or d (contents_end d) 0

-- the form that it says the records have
abbrev pub form_by : List ℕ → Form
form_by d = form_of (settings_in d)

-- the template: body 0 without its settings byte
unfoldable pub template_in : List ℕ → List ℕ
template_in d = part (contents_end d + 1) (contents_end d + u32 d 2) d

-- where the first record begins
unfoldable pub records_from : List ℕ → ℕ
records_from d = contents_end d + u32 d 2

-- a sheet whose template was read into n segments
pub record Ready (d : List ℕ) (cells : List Cell) (n : ℕ) : Type 0 where
  pub sheet : is_sheet d ≡ true
  pub read : IsRead (template_in d) cells n

abbrev pub OpenedKeeps : List ℕ → List Cell → Result ℕ Refusal → Type 0
OpenedKeeps d cells (Ok n) = Ready d cells n
OpenedKeeps d cells (Err r) = Unit {0}

-- what its records' lines are made by
abbrev pub maker_in : List ℕ → List Cell → ℕ → Maker
maker_in d cells n = maker_of (settings_in d) (template_in d) cells n

-- its records: all bodies but body 0
unfoldable pub records_of : List ℕ → List (List ℕ)
records_of d = bodies_from (body_count d - 1) d 6 (records_from d)

-- ---- the walk along the records

-- records of a sheet, so many, whose lengths stand from place i on and which begin at place j: they and their lengths lie in it
pub record Standing (left : ℕ) (d : List ℕ) (i j : ℕ) : Type 0 where
  pub lengths : i + 4 * left ≤ length d
  pub whole : j + body_bytes left d i ≡ length d

-- ---- what is written

-- the lines of these records, one after the other
unfoldable pub lines_from : Form → Settings → List ℕ → LogSegments → List (List ℕ) → List ℕ
lines_from form settings t s [] = []
lines_from form settings t s (body ∷ rest) = outcome_line (record_outcome form settings t s (laid_out form body) line_room) ++ lines_from form settings t s rest

-- made as the code makes them
unfoldable pub lines_by : Maker → List (List ℕ) → List ℕ
lines_by r [] = []
lines_by r (body ∷ rest) = outcome_line (outcome_by r body line_room) ++ lines_by r rest

-- the lines of all records of a sheet, by a template that was read
abbrev pub all_lines : List ℕ → LogSegments → List ℕ
all_lines d s = lines_from (form_by d) (settings_of (settings_in d)) (template_in d) s (records_of d)
