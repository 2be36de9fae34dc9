-- Demand 3, of templates and records: "for accepted templates and records without byte 27 in their texts". Assumes nothing.
use Rattle.std.specs.Prelude.{ℕ, ◌≡◌, List}
use Rattle.buffer.specs.Bytes.{part}
use Rattle.colour.specs.declared.Settings.{Settings}
use Rattle.colour.specs.Sequences.{visible}
use Rattle.colour.specs.Texts.{Free, Eachs}
use Rattle.segments.specs.Segments.{LogSegment, LogSegments, text, specifier, group, none, more}
use Rattle.record.specs.Records.{Given, absent, given, Record}
use Rattle.fields.specs.Lines.{record_shown, line_of}
use Rattle.demands.specs.Demand3.{Fills, FallsShort}
use Rattle.colour.specs.Modes.{plain, straight, coloured}

-- ---- texts without byte 27

-- of a text that may be absent
abbrev pub FreeGiven : Given → Type 0
FreeGiven absent = Unit {0}
FreeGiven (given t) = Free t

-- of a record: its five texts
pub record FreeRecord (r : Record) : Type 0 where
  pub file : FreeGiven r.file
  pub module_path : FreeGiven r.module_path
  pub timestamp : Free r.timestamp
  pub message : Free r.message
  -- "demand 3 holds for the new field too" (document 02, E7)
  pub serial : FreeGiven r.serial

-- of a template t: its text segments
abbrev mutual
  pub FreeSegment : List ℕ → LogSegment → Type 0
  FreeSegment t (text i j) = Free (part i j t)
  FreeSegment t (specifier m f) = Unit {0}
  FreeSegment t (group s f) = FreeSegments t s

  pub FreeSegments : List ℕ → LogSegments → Type 0
  FreeSegments t none = Unit {0}
  FreeSegments t (more x rest) = FreeSegment t x × FreeSegments t rest

-- ---- the demand

-- of the line of record r by a template t that was read as s; a print without level and a host's message are shown bare, so `Eachs`
-- says nothing of them. A comparison is shown as runs without width (document 02, E10): `same` covers it, and what `Eachs` says of its runs
-- is nothing about widths: "Demand 3's sameness of coloured and plain covers these lines, its sentence on widths doesn't"
pub record LineDemand3 (settings : Settings) (t : List ℕ) (s : LogSegments) (r : Record) : Type 0 where
  -- "in straight mode the coloured line with its colour sequences taken out once, left to right, is byte for byte the plain line"
  pub same : FreeSegments t s → FreeRecord r → visible (line_of (straight settings) t s r) ≡ line_of (plain settings) t s r
  -- "each group and specifier shown fills exactly the larger of its width and its visible characters"
  pub fills_plain : Eachs (Fills (plain settings)) (plain settings) (record_shown r.level t r s)
  pub fills_straight : Eachs (Fills (straight settings)) (straight settings) (record_shown r.level t r s)
  -- "In the crate's coloured mode a group's padding falls short by exactly the smaller of the padding due and the bytes inserted"
  pub falls_short : Eachs (FallsShort (coloured settings)) (coloured settings) (record_shown r.level t r s)
