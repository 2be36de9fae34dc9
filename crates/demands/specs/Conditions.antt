-- What the refusals are given for: a name for each condition of document 01's table, "Given exactly when". Assumes nothing.
use Rattle.std.specs.Prelude.{ℕ, ◌≤◌, ◌<◌, ◌≡◌, true, false, List, [], ◌∷◌, ◌⊎◌, ◌≢◌, length}
use Rattle.utf8.specs.Utf8.{valid}
use Rattle.letters.specs.Marked.{marked}
use Rattle.refusals.specs.declared.Refusal.{Refusal}
use Rattle.words.specs.Trying as trying
use Rattle.segments.specs.Segments.{LogSegments, is_log, named_among}
use Rattle.unused.specs.Unused.{Unused, place_of, unused_in}
use Rattle.template.specs.declared.Edition.{Edition}
use Rattle.template.specs.Template.{read, reading, read_by}
use Rattle.record.specs.declared.Form.{Form}
use Rattle.record.specs.Layout.{Laid, right_size, laid_out}
use Rattle.record.specs.Contents.{has_file, has_line, has_module, has_serial, record_of}
use Rattle.fields.specs.Lines.{line_of}
use Rattle.settings.specs.Bits.{settings_of, edition_of, form_of}

-- ---- a template

-- 1: "template over 1,024 bytes"
abbrev pub TemplateLong : List ℕ → Type 0
TemplateLong t = 1024 < length t

-- 2: "template not UTF-8", and 1 comes first
abbrev pub TemplateBroken : List ℕ → Type 0
TemplateBroken t = (length t ≤ 1024) × (valid t ≡ false)

-- neither: it comes to be read
abbrev pub Legible : List ℕ → Type 0
Legible t = (length t ≤ 1024) × (valid t ≡ true)

-- 3 and 5 to 9: reading it, with its letters marked, stops with the refusal r, "the first met in the crate's own order of trying"
abbrev pub Stops : List ℕ → Refusal → Type 0
Stops t r = Legible t × (reading (marked t) ≡ trying.refused r)

-- reading it gives the segments s: so many of them, up to a place
abbrev pub Gives : List ℕ → LogSegments → Type 0
Gives t s = Legible t × ((made : ℕ) × (place : ℕ) × (reading (marked t) ≡ trying.fit (record { segments = s; made = made }) place))

-- 4: "read, but no `{s}` at any depth; the empty template too"
abbrev pub Wordless : List ℕ → Type 0
Wordless t = (s : LogSegments) × Gives t s × (named_among is_log s ≡ false)

-- none of them: the first edition accepts it, as the segments s
abbrev pub FirstAccepts : List ℕ → LogSegments → Type 0
FirstAccepts t s = Gives t s × (named_among is_log s ≡ true)

-- ---- a template by either edition

-- "with every byte used and every parameter still in force", where the edition asks for that
abbrev pub AllInForce : Edition → List ℕ → Type 0
AllInForce Edition.First t = Unit {0}
AllInForce Edition.Strict t = unused_in (marked t) ≡ []

-- the edition accepts it, as the segments s
abbrev pub Accepts : Edition → List ℕ → LogSegments → Type 0
Accepts edition t s = FirstAccepts t s × AllInForce edition t

-- one of what is left unused stands at p
abbrev pub OneAt : ℕ → List Unused → Type 0
OneAt p [] = ⊥
OneAt p (u ∷ rest) = (place_of u ≡ p) ⊎ OneAt p rest

-- none of it stands before p
abbrev pub NoneBefore : ℕ → List Unused → Type 0
NoneBefore p [] = Unit {0}
NoneBefore p (u ∷ rest) = (p ≤ place_of u) × NoneBefore p rest

-- 17 with the place p: "bytes dropped or a parameter lost, with the place (from 0) of the first dropped byte or, if it comes earlier, of the lost parameter"
abbrev pub Drops : Edition → List ℕ → ℕ → Type 0
Drops Edition.First t p = ⊥
Drops Edition.Strict t p = ((s : LogSegments) × FirstAccepts t s) × (OneAt p (unused_in (marked t)) × NoneBefore p (unused_in (marked t)))

-- ---- a record

-- "14 now starts at mask 16, and in old sheets still at 8" (document 02, E7)
abbrev pub first_bad_mask : Form → ℕ
first_bad_mask Form.Old = 8
first_bad_mask Form.New = 16

-- 14: "source over 1, level over 5, host without level, presence mask over 7 ..", which is over 15 in the new form
abbrev pub BadNumbers : Form → Laid → Type 0
BadNumbers form d =
    (1 < d.source)
    ⊎ (5 < d.level)
    ⊎ ((d.source ≡ 1) × (d.level ≡ 0))
    ⊎ (first_bad_mask form ≤ d.mask)

-- ".. or an absent field with a non-zero length or line"
abbrev pub AbsentField : Laid → Type 0
AbsentField d =
    ((has_file d ≡ false) × (length d.file ≢ 0))
    ⊎ ((has_line d ≡ false) × (d.line ≢ 0))
    ⊎ ((has_module d ≡ false) × (length d.module_path ≢ 0))
    ⊎ ((has_serial d ≡ false) × (length d.serial ≢ 0))

-- one of the two
abbrev pub BadlyMarked : Form → Laid → Type 0
BadlyMarked form d = BadNumbers form d ⊎ AbsentField d

-- a text of a record, and the bytes that it may have at most
pub record Field : Type 0 where
  pub text : List ℕ
  pub most : ℕ

infix 70 ◌of_at_most◌
-- a field as it is written
abbrev pub ◌of_at_most◌ : List ℕ → ℕ → Field
t of_at_most n = record { text = t; most = n }

-- 11: "a field over 4,096 bytes"; "11 for the serial starts at 33 bytes"
abbrev pub FieldLong : Field → Type 0
FieldLong x = x.most < length x.text

-- 12: "a field not UTF-8", and 11 comes first
abbrev pub FieldBroken : Field → Type 0
FieldBroken x = (length x.text ≤ x.most) × (valid x.text ≡ false)

-- neither
abbrev pub FieldPasses : Field → Type 0
FieldPasses x = (length x.text ≤ x.most) × (valid x.text ≡ true)

-- "for file, module, timestamp, message in turn"; the serial's "11 and 12 come after the message's"
abbrev pub fields_of : Laid → List Field
fields_of d =
    d.file of_at_most 4096
    ∷ d.module_path of_at_most 4096
    ∷ d.timestamp of_at_most 4096
    ∷ d.message of_at_most 4096
    ∷ d.serial of_at_most 32
    ∷ []

-- P holds of one of some fields, and each before it passes
abbrev pub First : (Field → Type 0) → List Field → Type 0
First P [] = ⊥
First P (x ∷ rest) = P x ⊎ (FieldPasses x × First P rest)

-- each of some fields passes
abbrev pub AllPass : List Field → Type 0
AllPass [] = Unit {0}
AllPass (x ∷ rest) = FieldPasses x × AllPass rest

-- a record that is refused with 11, "Order: .. 14; then .. 11 before 12"
abbrev pub RecordLong : Form → Laid → Type 0
RecordLong form d = (BadlyMarked form d → ⊥) × First FieldLong (fields_of d)

-- one that is refused with 12
abbrev pub RecordBroken : Form → Laid → Type 0
RecordBroken form d = (BadlyMarked form d → ⊥) × First FieldBroken (fields_of d)

-- one that is accepted
abbrev pub RecordPasses : Form → Laid → Type 0
RecordPasses form d = (BadlyMarked form d → ⊥) × AllPass (fields_of d)

-- ---- a call

-- "an unknown settings bit or a record of the wrong size is 15"
abbrev pub NoCall : ℕ → List ℕ → Type 0
NoCall settings d = (32 ≤ settings) ⊎ (right_size (form_of settings) d ≡ false)

-- neither
abbrev pub IsCall : ℕ → List ℕ → Type 0
IsCall settings d = (settings < 32) × (right_size (form_of settings) d ≡ true)

-- what the bytes of a call lay out, in the form that its settings say
abbrev pub laid_in : ℕ → List ℕ → Laid
laid_in settings d = laid_out (form_of settings) d

-- a call whose template is read as s, in the edition that its settings ask for, and whose record passes
pub record AcceptedCall (t : List ℕ) (settings : ℕ) (d : List ℕ) (s : LogSegments) : Type 0 where
  pub call : IsCall settings d
  pub template : read_by (edition_of settings) t ≡ read s
  pub passes : RecordPasses (form_of settings) (laid_in settings d)

-- and its line
abbrev pub call_line : List ℕ → ℕ → List ℕ → LogSegments → List ℕ
call_line t settings d s = line_of (settings_of settings) t s (record_of (laid_in settings d))
