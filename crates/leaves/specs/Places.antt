-- Scaffolding, for proofs alone: what is shown of a record, by the places of its texts and of the comparison that its message is. Assumes nothing.
use Rattle.std.specs.Prelude.{ℕ, ◌≤◌, Bool, List, length}
use Rattle.std.specs.Option.{is_some}
use Rattle.fields.specs.Worded.{Compares}
use Rattle.record.specs.declared.Source.{Source}
use Rattle.record.specs.declared.Level.{Level}
use Rattle.record.specs.Records.{Record}
use Rattle.record.specs.Layout.{Laid}
use Rattle.record.specs.Placed.{laid_by, PlacesWithin}
use Rattle.record.specs.Levels.{level_of}
use Rattle.record.specs.Contents.{source_of, record_of}
use Rattle.leaves.specs.declared.Shown.{Shown}
use Rattle.segments.specs.declared.Cell.{Cell}

-- whether there is a comparison
unfoldable pub has_comparison : Shown → Bool
has_comparison x = is_some x.spans

-- the record whose places are those of x and whose bytes are d
unfoldable pub record_by : Shown → List ℕ → Record
record_by x d = record_of (laid_by x.places d)

-- its source and its level, for which no bytes are needed
unfoldable pub source_by : Shown → Source
source_by x = source_of x.places.source

unfoldable pub level_by : Shown → Level
level_by x = level_of x.places.level

-- no text is longer than refusal 11 allows the longest
pub record Short (d : Laid) : Type 0 where
  pub file : length d.file ≤ 4096
  pub module_path : length d.module_path ≤ 4096
  pub timestamp : length d.timestamp ≤ 4096
  pub message : length d.message ≤ 4096
  pub serial : length d.serial ≤ 4096

-- x has the places of a record in the bytes d, and of the comparison that its message is
pub record Lent (d : List ℕ) (x : Shown) : Type 0 where
  pub places : PlacesWithin (length d) x.places
  pub short : length (record_by x d).message ≤ 4096
  pub compared : Compares d x.places x.spans

-- what is lent can be read: n segments, and a record's places and bytes
pub record Readable (cells : List Cell) (d : List ℕ) (x : Shown) (n : ℕ) : Type 0 where
  pub pool : 64 ≤ length cells
  pub few : n ≤ 64
  pub lent : Lent d x
