-- The checks of a record (document 01, refusals 14, 11 and 12). Assumes nothing.
use Rattle.std.specs.Prelude.{ℕ, Bool, true, false, not, ◌||◌, ◌&&◌, List, eqb, leb, ltb, length}
use Rattle.buffer.specs.Table.{Maybe, none, some}
use Rattle.utf8.specs.Utf8.{valid}
use Rattle.refusals.specs.declared.Refusal.{Refusal}
use Rattle.record.specs.declared.Form.{Form}
use Rattle.record.specs.Layout.{Laid}
use Rattle.record.specs.Contents.{has_file, has_line, has_module, has_serial}

-- ---- 14

-- "host without level"
abbrev pub host_without_level : ℕ → ℕ → Bool
host_without_level source level = eqb source 1 && eqb level 0

-- "presence mask over 7"; document 02, E7: "14 now starts at mask 16, and in old sheets still at 8"
abbrev pub most_mask : Form → ℕ
most_mask Form.Old = 7
most_mask Form.New = 15

-- "source over 1, level over 5, host without level", and a presence mask over the most
unfoldable pub bad_numbers : ℕ → ℕ → ℕ → ℕ → Bool
bad_numbers most source level mask = ltb 1 source || ltb 5 level || host_without_level source level || ltb most mask

-- "an absent field with a non-zero length or line"
unfoldable pub absent_but_there : Bool → ℕ → Bool
absent_but_there present n = not present && not (eqb n 0)

-- the same of each field that the mask marks
unfoldable pub absent_field : Laid → Bool
absent_field d =
    absent_but_there (has_file d) (length d.file)
    || absent_but_there (has_line d) d.line
    || absent_but_there (has_module d) (length d.module_path)
    || absent_but_there (has_serial d) (length d.serial)

-- refusal 14: "source over 1, level over 5, host without level, presence mask over 7, or an absent field with a non-zero length or line"
unfoldable pub badly_marked : Form → Laid → Bool
badly_marked form d = bad_numbers (most_mask form) d.source d.level d.mask || absent_field d

-- ---- 11 and 12

-- "a field over 4,096 bytes"
abbrev pub most_field : ℕ
most_field = 4096

-- document 02, E7: "11 for the serial starts at 33 bytes"
abbrev pub most_serial : ℕ
most_serial = 32

-- refusal 11: a field over the most of it; refusal 12: "a field not UTF-8"; "11 before 12"
unfoldable pub field_refusal : ℕ → List ℕ → Maybe Refusal
field_refusal most t =
    elim (leb (length t) most) [
      | true ↦ elim (valid t) [ true ↦ none | false ↦ some Refusal.FieldNotUtf8 ]
      | false ↦ some Refusal.FieldTooLong
    ]

-- the first refusal of two
unfoldable pub or_next : Maybe Refusal → (Unit {0} → Maybe Refusal) → Maybe Refusal
or_next none next = next tt
or_next (some r) next = some r

-- "Order: 14; then for file, module, timestamp, message in turn 11 before 12"; the serial's "11 and 12 come after the message's"
unfoldable pub fields_refusal : Laid → Maybe Refusal
fields_refusal d =
    or_next (field_refusal most_field d.file) λ _.
    or_next (field_refusal most_field d.module_path) λ _.
    or_next (field_refusal most_field d.timestamp) λ _.
    or_next (field_refusal most_field d.message) λ _.
    field_refusal most_serial d.serial

-- "Order: 14; then .. 11 before 12": the refusal of a record, if any
unfoldable pub record_refusal : Form → Laid → Maybe Refusal
record_refusal form d = elim (badly_marked form d) [ true ↦ some Refusal.NotARecord | false ↦ fields_refusal d ]
