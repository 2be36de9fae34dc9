-- Scaffolding, for proofs alone: the table that measuring fills: a row for each segment of the pool. Assumes nothing.
use Rattle.std.specs.Prelude.{ℕ, zero, suc, ◌+◌, ◌-◌, ◌≤◌, ◌<◌, ◌^◌, ◌≡◌, Bool, true, false, ◌&&◌, List, eqb, length, get_or}
use Rattle.colour.specs.declared.Settings.{Settings}
use Rattle.colour.specs.declared.Format.{Format}
use Rattle.colour.specs.Formatting.{prefix_in, padded, inserted, before}
use Rattle.segments.specs.declared.Cell.{Cell}
use Rattle.segments.specs.Segments.{LogSegment}
use Rattle.segments.specs.Pool.{back, segment_at, chain_at, Sound, Tidy}
use Rattle.segments.specs.Sizes.{sizes, Lows}
use Rattle.record.specs.Records.{Record}
use Rattle.record.specs.Placed.{laid_by}
use Rattle.rows.specs.declared.Row.{Row}
use Rattle.dress.specs.declared.Frame.{Frame}
use Rattle.leaves.specs.declared.Shown.{Shown}
use Rattle.leaves.specs.Places.{Short, Readable}
use Rattle.rows.specs.Texts.{segment_text, raw_text, bare_message, is_bare, format_of}

-- row i of a table
abbrev pub row_at : List Row → ℕ → Row
row_at table i = get_or table i (record { padding = 0; inserted = 0; len = 0 })

-- the row of n bytes with nothing around them
unfoldable pub bare_row : ℕ → Row
bare_row n = record { padding = 0; inserted = 0; len = n }

-- the row of a text that is formatted, to n bytes
unfoldable pub row_in : Settings → Format → List ℕ → ℕ → Row
row_in s f x n = record { padding = padded s f x; inserted = inserted (prefix_in s.colour f.look) x; len = n }

-- the row of a segment: no more than the length for one that is never formatted
unfoldable pub row_of : Settings → List ℕ → Record → LogSegment → Row
row_of s t r x =
    elim (is_bare (bare_message r) x) [
      | true ↦ bare_row (length (segment_text s t r x))
      | false ↦ row_in s (format_of r.level x) (raw_text s t r x) (length (segment_text s t r x))
    ]

-- a format with what a row says of the text
unfoldable pub frame_by : Format → Row → Frame
frame_by f w = record {
  format = f;
  left = before f.alignment w.padding;
  right = w.padding - before f.alignment w.padding;
  inserted = w.inserted;
}

-- whether a frame adds nothing: no padding and no prefix
unfoldable pub is_empty : Settings → Frame → Bool
is_empty s w = eqb w.left 0 && (eqb w.right 0 && eqb (length (prefix_in s.colour w.format.look)) 0)

-- the lengths in a table of the members back from a link, together: those at places below b
unfoldable pub lengths_below : List Cell → List Row → ℕ → ℕ → ℕ
lengths_below cells table zero l = 0
lengths_below cells table (suc b) l =
    elim (eqb l (b + 1)) [
      | true ↦ lengths_below cells table b (back cells b) + (row_at table b).len
      | false ↦ lengths_below cells table b l
    ]

-- and all of them
unfoldable pub lengths_back : List Cell → List Row → ℕ → ℕ
lengths_back cells table l = lengths_below cells table l l

-- the table holds the rows of the segments below n
pub record Tabled (s : Settings) (t : List ℕ) (r : Record) (cells : List Cell) (table : List Row) (n : ℕ) : Type 0 where
  pub room : n ≤ length table
  pub row : (i : ℕ) → i < n → row_at table i ≡ row_of s t r (segment_at cells i)

-- the texts of the segments below n can be counted
pub record Countable (s : Settings) (t : List ℕ) (r : Record) (cells : List Cell) (n : ℕ) : Type 0 where
  pub size : (i : ℕ) → i < n → length (segment_text s t r (segment_at cells i)) < 2 ^ 57

-- what a line is written from: n segments within bounds, the template that they were read from, and a record
pub record Writable (cells : List Cell) (t d : List ℕ) (x : Shown) (n : ℕ) : Type 0 where
  pub readable : Readable cells d x n
  pub sound : Sound cells n
  pub tidy : Tidy cells n
  pub few : sizes (chain_at cells n) ≤ 64
  pub low : Lows 8 (chain_at cells n)
  pub template : length t ≤ 1024
  pub texts : Short (laid_by x.places d)
