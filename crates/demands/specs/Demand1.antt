-- Demand 1: "Any bytes as template, record or sheet get a line or one of document 01's numbered refusals, each exactly when stated there" (and 17 of
-- document 02, in its strict edition).
-- A refusal writes nothing into any lent buffer. No caller has to check first." Assumes nothing.
use Rattle.std.specs.Prelude.{ℕ, ◌+◌, ◌*◌, ◌≤◌, ◌<◌, ◌/◌, ◌%◌, ◌≡◌, Bool, true, false, List, ◌↔◌, ◌⊎◌, ◌≢◌, length}
use Rattle.buffer.specs.Table.{none, some}
use Rattle.refusals.specs.declared.Refusal.{Refusal}
use Rattle.refusals.specs.declared.Refusal.TheVariants.{Failure, TooManySegments, TooDeep, TooWide, TooManyF, HalfEscape, FieldTooLong, FieldNotUtf8, NotARecord}
use Rattle.refusals.specs.Numbers.{number}
use Rattle.segments.specs.Segments.{LogSegments}
use Rattle.template.specs.declared.Edition.{Edition}
use Rattle.template.specs.Template.{read, read_by, names_timestamp}
use Rattle.settings.specs.Bits.{edition_of, form_of}
use Rattle.record.specs.declared.Form.{Form}
use Rattle.record.specs.Layout.{Laid}
use Rattle.checks.specs.Checks.{record_refusal}
use Rattle.builtin.specs.declared.Style.{Style}
use Rattle.builtin.specs.Builtins.{builtin_text}
use Rattle.checking.specs.Templates.{check_of, timestamp_of, check_entry, timestamp_entry}
use Rattle.sheet.specs.Sheets.{Sheet, body_count, contents_end, body_bytes, bodies, are_bodies, sheet_of}
use Rattle.answer.specs.Answers.{Outcome, line, refused, in_room, Meets, line_entry}
use Rattle.outcomes.specs.Program.{record_lines, session_entry}
use Rattle.demands.specs.Conditions.{TemplateLong, TemplateBroken, Stops, Wordless, Accepts, Drops, BadlyMarked, RecordLong, RecordBroken, RecordPasses, NoCall, IsCall, laid_in, AcceptedCall, call_line}

-- ---- what an entry with a lent buffer returns and leaves

-- the number that an outcome tells: 0 for a line
abbrev pub number_of : Outcome → ℕ
number_of (line s) = 0
number_of (refused r) = number r

-- of an outcome o, whatever answer and whatever buffer meet it
pub record Returns (o : Outcome) (lent : List ℕ) : Type 0 where
  -- "a line or one of document 01's numbered refusals", or 17; document 02, E3: "Refusal 10 is no longer given"
  pub numbered : (number_of o ≤ 17) × (number_of o ≢ 10) × (number_of o ≢ 16)
  -- "Every refusal returns its number"
  pub told : (left : List ℕ) (answer : ℕ) → Meets o lent left answer → answer % 256 ≡ number_of o
  -- "(13 also the length; no other refusal returns one)"; 17 returns its place
  pub no_length : (left : List ℕ) (answer : ℕ) → Meets o lent left answer → answer % 256 ≢ 0 → answer % 256 ≢ 13 → answer % 256 ≢ 17 → answer / 256 ≡ 0
  -- "A refusal writes nothing into any lent buffer"
  pub untouched : (left : List ℕ) (answer : ℕ) → Meets o lent left answer → answer % 256 ≢ 0 → left ≡ lent

-- ---- any bytes as template

-- what is answered about a template alone in an edition: 0 where it is read, its refusal's number, or 17 + 256 × place
abbrev pub template_number : Edition → List ℕ → ℕ
template_number edition t = check_of (read_by edition t)

-- each number "Given exactly when", of either edition
pub record TemplateDemand1 (edition : Edition) (t : List ℕ) : Type 0 where
  -- accepted, and as which segments
  pub is_0 : template_number edition t ≡ 0 ↔ ((s : LogSegments) × Accepts edition t s)
  pub accepted : (s : LogSegments) → (read_by edition t ≡ read s) ↔ Accepts edition t s
  -- "template over 1,024 bytes"
  pub is_1 : template_number edition t ≡ 1 ↔ TemplateLong t
  -- "template not UTF-8"
  pub is_2 : template_number edition t ≡ 2 ↔ TemplateBroken t
  -- "the crate's parser fails outright on it (a `Failure`)"
  pub is_3 : template_number edition t ≡ 3 ↔ Stops t Failure
  -- "read, but no `{s}` at any depth; the empty template too"
  pub is_4 : template_number edition t ≡ 4 ↔ Wordless t
  -- "a 65th segment is made"
  pub is_5 : template_number edition t ≡ 5 ↔ Stops t TooManySegments
  -- "a closed brace is entered at depth 9 (outermost is 1)"
  pub is_6 : template_number edition t ≡ 6 ↔ Stops t TooDeep
  -- "a width above 512 is read, however many digits"
  pub is_7 : template_number edition t ≡ 7 ↔ Stops t TooWide
  -- "a specifier name of more than 255 `f`"
  pub is_8 : template_number edition t ≡ 8 ↔ Stops t TooManyF
  -- "a search for a closing brace meets a backslash as the last byte of its text (the crate panics)"
  pub is_9 : template_number edition t ≡ 9 ↔ Stops t HalfEscape
  -- "Refusal 10 is no longer given" (document 02, E3)
  pub never_10 : template_number edition t ≢ 10
  -- "bytes dropped or a parameter lost, with the place (from 0) .. checked after 3 to 10" (document 02, E5), and the place is one in the template
  pub is_17 : (p : ℕ) → template_number edition t ≡ 17 + 256 * p ↔ Drops edition t p
  pub inside : (p : ℕ) → Drops edition t p → p < length t
  -- and no other
  pub numbered : (template_number edition t ≤ 9) ⊎ ((p : ℕ) × (template_number edition t ≡ 17 + 256 * p))

-- "the yes/no whether a template names `{t}`": 256 for yes, 0 for no, or the template's number
pub record TimestampDemand1 (edition : Edition) (t : List ℕ) : Type 0 where
  pub told : template_number edition t ≢ 0 → timestamp_of (read_by edition t) ≡ template_number edition t
  pub yes : timestamp_of (read_by edition t) ≡ 256 ↔ ((s : LogSegments) × Accepts edition t s × (names_timestamp s ≡ true))
  pub no : timestamp_of (read_by edition t) ≡ 0 ↔ ((s : LogSegments) × Accepts edition t s × (names_timestamp s ≡ false))

-- the two calls about a template alone, with a settings byte: an unknown bit is 15, "first"; else the edition asked for decides
pub record CheckDemand1 (t : List ℕ) (settings : ℕ) : Type 0 where
  pub is_15 : check_entry t settings ≡ 15 ↔ (32 ≤ settings)
  pub checked : settings < 32 → check_entry t settings ≡ template_number (edition_of settings) t
  pub timestamp_15 : timestamp_entry t settings ≡ 15 ↔ (32 ≤ settings)
  pub asked : settings < 32 → timestamp_entry t settings ≡ timestamp_of (read_by (edition_of settings) t)

-- ---- any bytes as record

-- each refusal "Given exactly when", in either form
pub record RecordDemand1 (form : Form) (d : Laid) : Type 0 where
  -- accepted
  pub passes : (record_refusal form d ≡ none) ↔ RecordPasses form d
  -- 14: "source over 1, level over 5, host without level, presence mask over 7, or an absent field with a non-zero length or line"; "14 now starts at mask 16, and in
  -- old sheets still at 8"
  pub is_14 : (record_refusal form d ≡ some NotARecord) ↔ BadlyMarked form d
  -- 11: "a field over 4,096 bytes"; "11 for the serial starts at 33 bytes"
  pub is_11 : (record_refusal form d ≡ some FieldTooLong) ↔ RecordLong form d
  -- 12: "a field not UTF-8"
  pub is_12 : (record_refusal form d ≡ some FieldNotUtf8) ↔ RecordBroken form d
  -- and no other
  pub numbered : (r : Refusal) → record_refusal form d ≡ some r → (number r ≡ 11) ⊎ (number r ≡ 12) ⊎ (number r ≡ 14)

-- ---- any bytes as sheet

-- "sheet over 65,536 bytes, or not laid out exactly as the sheet section says": "u16 n (at least 1), then n u32 lengths; then the n bodies",
-- which are a body 0 and records
abbrev pub NoSheet : List ℕ → Type 0
NoSheet d =
    (65536 < length d)
    ⊎ (length d < 2)
    ⊎ (body_count d < 1)
    ⊎ (length d < contents_end d)
    ⊎ (contents_end d + body_bytes (body_count d) d 2 ≢ length d)
    ⊎ (are_bodies (bodies d) ≡ false)

-- 15 "Given exactly when"
pub record SheetDemand1 (d : List ℕ) : Type 0 where
  pub is_15 : (sheet_of d ≡ none) ↔ NoSheet d

-- ---- a line call

-- the number of a line call
abbrev pub call_number : List ℕ → ℕ → List ℕ → List ℕ → ℕ
call_number t settings d lent = number_of (line_entry t settings d lent)

-- each number "Given exactly when", in the order 15; 1; 2; then 3 and 5 to 9, "the first met in the crate's own order of trying; 4"; 17; "14; then for
-- file, module, timestamp, message in turn 11 before 12; 13"; the serial's "11 and 12 come after the message's"
pub record CallDemand1 (t : List ℕ) (settings : ℕ) (d lent : List ℕ) : Type 0 where
  -- "an unknown settings bit or a record of the wrong size is 15"
  pub is_15 : call_number t settings d lent ≡ 15 ↔ NoCall settings d
  -- "template over 1,024 bytes"
  pub is_1 : call_number t settings d lent ≡ 1 ↔ (IsCall settings d × TemplateLong t)
  -- "template not UTF-8"
  pub is_2 : call_number t settings d lent ≡ 2 ↔ (IsCall settings d × TemplateBroken t)
  -- "the crate's parser fails outright on it (a `Failure`)"
  pub is_3 : call_number t settings d lent ≡ 3 ↔ (IsCall settings d × Stops t Failure)
  -- "a 65th segment is made"
  pub is_5 : call_number t settings d lent ≡ 5 ↔ (IsCall settings d × Stops t TooManySegments)
  -- "a closed brace is entered at depth 9 (outermost is 1)"
  pub is_6 : call_number t settings d lent ≡ 6 ↔ (IsCall settings d × Stops t TooDeep)
  -- "a width above 512 is read, however many digits"
  pub is_7 : call_number t settings d lent ≡ 7 ↔ (IsCall settings d × Stops t TooWide)
  -- "a specifier name of more than 255 `f`"
  pub is_8 : call_number t settings d lent ≡ 8 ↔ (IsCall settings d × Stops t TooManyF)
  -- "a search for a closing brace meets a backslash as the last byte of its text (the crate panics)"
  pub is_9 : call_number t settings d lent ≡ 9 ↔ (IsCall settings d × Stops t HalfEscape)
  -- "Refusal 10 is no longer given" (document 02, E3)
  pub never_10 : call_number t settings d lent ≢ 10
  -- "read, but no `{s}` at any depth; the empty template too"
  pub is_4 : call_number t settings d lent ≡ 4 ↔ (IsCall settings d × Wordless t)
  -- "bytes dropped or a parameter lost, with the place (from 0)" (document 02, E5)
  pub is_17 : call_number t settings d lent ≡ 17 ↔ (IsCall settings d × ((p : ℕ) × Drops (edition_of settings) t p))
  pub place : IsCall settings d → (p : ℕ) → Drops (edition_of settings) t p → (left : List ℕ) (answer : ℕ)
      → Meets (line_entry t settings d lent) lent left answer → answer / 256 ≡ p
  -- "source over 1, level over 5, host without level, presence mask over 7, or an absent field with a non-zero length or line"
  pub is_14 : call_number t settings d lent ≡ 14 ↔ (IsCall settings d × ((s : LogSegments) × Accepts (edition_of settings) t s) × BadlyMarked (form_of settings) (laid_in settings d))
  -- "a field over 4,096 bytes"
  pub is_11 : call_number t settings d lent ≡ 11 ↔ (IsCall settings d × ((s : LogSegments) × Accepts (edition_of settings) t s) × RecordLong (form_of settings) (laid_in settings d))
  -- "a field not UTF-8"
  pub is_12 : call_number t settings d lent ≡ 12 ↔ (IsCall settings d × ((s : LogSegments) × Accepts (edition_of settings) t s) × RecordBroken (form_of settings) (laid_in settings d))
  -- "the whole line is longer than the lent buffer; the needed length is returned"
  pub is_13 : call_number t settings d lent ≡ 13 ↔ ((s : LogSegments) × AcceptedCall t settings d s × (length lent < length (call_line t settings d s)))
  pub needed : (s : LogSegments) → AcceptedCall t settings d s → (left : List ℕ) (answer : ℕ)
      → Meets (line_entry t settings d lent) lent left answer → answer / 256 ≡ length (call_line t settings d s)
  -- a line, where none of them is given
  pub is_0 : call_number t settings d lent ≡ 0 ↔ ((s : LogSegments) × AcceptedCall t settings d s × (length (call_line t settings d s) ≤ length lent))
  pub returns : Returns (line_entry t settings d lent) lent

-- ---- a session call

-- the number of a session call
abbrev pub session_number : List ℕ → List ℕ → ℕ
session_number d lent = number_of (session_entry d lent)

-- d is a sheet, and P holds of its template
abbrev pub SheetWhose : List ℕ → (List ℕ → Type 0) → Type 0
SheetWhose d P = (h : Sheet) × (sheet_of d ≡ some h) × P h.template

-- d is a sheet whose template drops or loses something, the first of it at p
abbrev pub SheetDrops : List ℕ → ℕ → Type 0
SheetDrops d p = (h : Sheet) × (sheet_of d ≡ some h) × Drops (edition_of h.settings) h.template p

-- d is a sheet whose template is read as s, in the edition that its settings ask for
pub record AcceptedSheet (d : List ℕ) (h : Sheet) (s : LogSegments) : Type 0 where
  pub sheet : sheet_of d ≡ some h
  pub template : read_by (edition_of h.settings) h.template ≡ read s

-- each number "Given exactly when"; a refused record has its line among the others, so 11, 12 and 14 are never given for a whole sheet
pub record SessionDemand1 (d lent : List ℕ) : Type 0 where
  -- "sheet over 65,536 bytes, or not laid out exactly as the sheet section says"
  pub is_15 : session_number d lent ≡ 15 ↔ NoSheet d
  -- "template over 1,024 bytes"
  pub is_1 : session_number d lent ≡ 1 ↔ SheetWhose d TemplateLong
  -- "template not UTF-8"
  pub is_2 : session_number d lent ≡ 2 ↔ SheetWhose d TemplateBroken
  -- "the crate's parser fails outright on it (a `Failure`)"
  pub is_3 : session_number d lent ≡ 3 ↔ SheetWhose d λ t. Stops t Failure
  -- "a 65th segment is made"
  pub is_5 : session_number d lent ≡ 5 ↔ SheetWhose d λ t. Stops t TooManySegments
  -- "a closed brace is entered at depth 9 (outermost is 1)"
  pub is_6 : session_number d lent ≡ 6 ↔ SheetWhose d λ t. Stops t TooDeep
  -- "a width above 512 is read, however many digits"
  pub is_7 : session_number d lent ≡ 7 ↔ SheetWhose d λ t. Stops t TooWide
  -- "a specifier name of more than 255 `f`"
  pub is_8 : session_number d lent ≡ 8 ↔ SheetWhose d λ t. Stops t TooManyF
  -- "a search for a closing brace meets a backslash as the last byte of its text (the crate panics)"
  pub is_9 : session_number d lent ≡ 9 ↔ SheetWhose d λ t. Stops t HalfEscape
  -- "Refusal 10 is no longer given" (document 02, E3)
  pub never_10 : session_number d lent ≢ 10
  -- "read, but no `{s}` at any depth; the empty template too"
  pub is_4 : session_number d lent ≡ 4 ↔ SheetWhose d Wordless
  -- "bytes dropped or a parameter lost, with the place (from 0)" (document 02, E5)
  pub is_17 : session_number d lent ≡ 17 ↔ ((p : ℕ) × SheetDrops d p)
  pub place : (p : ℕ) → SheetDrops d p → (left : List ℕ) (answer : ℕ) → Meets (session_entry d lent) lent left answer → answer / 256 ≡ p
  pub never_14 : session_number d lent ≢ 14
  pub never_11 : session_number d lent ≢ 11
  pub never_12 : session_number d lent ≢ 12
  -- the lines of all records together are longer than the lent buffer; the needed length is returned
  pub is_13 : session_number d lent ≡ 13 ↔ ((h : Sheet) × (s : LogSegments) × AcceptedSheet d h s × (length lent < length (record_lines h s h.records)))
  pub needed : (h : Sheet) (s : LogSegments) → AcceptedSheet d h s → (left : List ℕ) (answer : ℕ)
      → Meets (session_entry d lent) lent left answer → answer / 256 ≡ length (record_lines h s h.records)
  -- the lines of all records
  pub is_0 : session_number d lent ≡ 0 ↔ ((h : Sheet) × (s : LogSegments) × AcceptedSheet d h s × (length (record_lines h s h.records) ≤ length lent))
  pub returns : Returns (session_entry d lent) lent

-- ---- a built-in template

-- the outcome of a call for a built-in template
abbrev pub builtin_entry : Style → Bool → Bool → Bool → List ℕ → Outcome
builtin_entry style location timestamp host lent = in_room (length lent) (builtin_text style location timestamp host)

-- it is 13 where there is no room, and else the template
pub record BuiltinDemand1 (style : Style) (location timestamp host : Bool) (lent : List ℕ) : Type 0 where
  pub is_13 : number_of (builtin_entry style location timestamp host lent) ≡ 13 ↔ (length lent < length (builtin_text style location timestamp host))
  pub is_0 : number_of (builtin_entry style location timestamp host lent) ≡ 0 ↔ (length (builtin_text style location timestamp host) ≤ length lent)
  pub numbered : (number_of (builtin_entry style location timestamp host lent) ≡ 0) ⊎ (number_of (builtin_entry style location timestamp host lent) ≡ 13)
  pub returns : Returns (builtin_entry style location timestamp host lent) lent
