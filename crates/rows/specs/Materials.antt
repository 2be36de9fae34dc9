-- Scaffolding, for proofs alone: what a line's material says of the texts of its segments, and of its table. Assumes nothing.
use Rattle.std.specs.Prelude.{ℕ, ◌+◌, ◌<◌, ◌^◌, List, length}
use Rattle.measure.specs.declared.Measure.{Measure}
use Rattle.measure.specs.Measures.{Small}
use Rattle.segments.specs.Pool.{segment_at, chain_at}
use Rattle.record.specs.Records.{Record}
use Rattle.leaves.specs.Places.{record_by, Readable}
use Rattle.members.specs.Links.{Forward}
use Rattle.rows.specs.declared.Row.{Row}
use Rattle.rows.specs.declared.Material.{Material}
use Rattle.rows.specs.Texts.{record_segment, record_segments, record_raw}
use Rattle.rows.specs.Rows.{Tabled}

-- the record that is shown
abbrev pub record_in : Material → Record
record_in m = record_by m.shown.now m.bytes.now

-- the text of the segment at i
abbrev pub segment_in : Material → ℕ → List ℕ
segment_in m i = record_segment m.settings m.template.now m.shown.now m.bytes.now (segment_at m.cells.now i)

-- that of the members back from the link l
abbrev pub members_in : Material → ℕ → List ℕ
members_in m l = record_segments m.settings m.template.now m.shown.now m.bytes.now (chain_at m.cells.now l)

-- that of the segment at i before it is formatted
abbrev pub raw_in : Material → ℕ → List ℕ
raw_in m i = record_raw m.settings m.template.now m.shown.now m.bytes.now (segment_at m.cells.now i)

-- the material can be read, and the table has the rows of the segments below n
pub record Known (m : Material) (table : List Row) (n : ℕ) : Type 0 where
  pub readable : Readable m.cells.now m.bytes.now m.shown.now n
  pub tabled : Tabled m.settings m.template.now (record_in m) m.cells.now table n
  pub forward : Forward m.cells.now m.links.now n

-- a text can be counted on top of a measure
abbrev pub Addable : Measure → List ℕ → Type 0
Addable a x = (Small a) × (a.len + length x < 2 ^ 57)
