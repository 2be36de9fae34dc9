-- Scaffolding, for proofs alone: the pool: segments as they are made, members before their group and each with a link back to the member before it.
-- Assumes nothing.
use Rattle.std.specs.Prelude.{None, ℕ, zero, suc, ◌+◌, ◌≤◌, ◌<◌, ◌≡◌, true, false, List, eqb, leb, get_or, take}
use Rattle.words.specs.declared.Alignment.{Alignment}
use Rattle.words.specs.declared.Padding.{Padding}
use Rattle.words.specs.declared.LogFormat.{LogFormat}
use Rattle.segments.specs.declared.Kind.{Kind}
use Rattle.segments.specs.declared.Cell.{Cell}
use Rattle.segments.specs.Segments.{LogSegment, LogSegments, text, specifier, group, none, ◌and_then◌}
use Rattle.segments.specs.Sizes.{size, Low}

-- ---- one segment

-- what a pool has where nothing was stored
abbrev pub no_cell : Cell
no_cell = record {
  kind = Kind.Text 0 0;
  format = record {
    styles = record { bold = false; dimmed = false; underline = false; italic = false; strike = false };
    alignment = Alignment.Left;
    padding = Padding.Space;
    color = None;
    width = None;
  };
  link = 0;
}

-- what stands at place i
unfoldable pub cell : List Cell → ℕ → Cell
cell cells i = get_or cells i no_cell

unfoldable pub kind_at : List Cell → ℕ → Kind
kind_at cells i = (cell cells i).kind

unfoldable pub format_at : List Cell → ℕ → LogFormat
format_at cells i = (cell cells i).format

-- ---- links

-- a link is 0 for none, or one more than the place it leads to; a link that doesn't lead below i counts as none
unfoldable pub link_below : ℕ → ℕ → ℕ
link_below i l = elim (leb l i) [ true ↦ l | false ↦ 0 ]

-- the link to the member before this one
unfoldable pub back : List Cell → ℕ → ℕ
back cells i = link_below i (cell cells i).link

-- the link that a group has to its last member
abbrev pub last_link : Kind → ℕ
last_link (Kind.Text from to) = 0
last_link (Kind.Group last) = last
last_link (Kind.Specifier m) = 0

unfoldable pub last_member : List Cell → ℕ → ℕ
last_member cells i = link_below i (last_link (kind_at cells i))

-- ---- the segments that the pool holds

-- the members back from a link below b, each seen by `at`
unfoldable pub chain_by : (ℕ → LogSegment) → List Cell → ℕ → ℕ → LogSegments
chain_by at cells zero l = none
chain_by at cells (suc b) l = elim (eqb l (b + 1)) [ true ↦ chain_by at cells b (back cells b) and_then at b | false ↦ chain_by at cells b l ]

unfoldable pub segment_as : List Cell → ℕ → LogSegments → Kind → LogSegment
segment_as cells i members (Kind.Text from to) = text from to
segment_as cells i members (Kind.Group last) = group members (format_at cells i)
segment_as cells i members (Kind.Specifier m) = specifier m (format_at cells i)

-- the segment at place i, those before it seen by `at`
unfoldable pub segment_by : (ℕ → LogSegment) → List Cell → ℕ → LogSegment
segment_by at cells i = segment_as cells i (chain_by at cells i (last_member cells i)) (kind_at cells i)

-- the segment at place i, which is below b
unfoldable pub segment_below : List Cell → ℕ → ℕ → LogSegment
segment_below cells zero i = text 0 0
segment_below cells (suc b) i = elim (eqb i b) [ true ↦ segment_by (segment_below cells b) cells b | false ↦ segment_below cells b i ]

-- the segment at place i
unfoldable pub segment_at : List Cell → ℕ → LogSegment
segment_at cells i = segment_below cells (suc i) i

-- the members back from a link
unfoldable pub chain_at : List Cell → ℕ → LogSegments
chain_at cells l = chain_by (segment_at cells) cells l l

-- ---- what adding to a pool keeps

-- segment n was added: those before it stand as they were, it is x, and its link leads back as it was asked to
pub record Adds (before after : List Cell) (n link : ℕ) (x : LogSegment) : Type 0 where
  pub front : take n after ≡ take n before
  pub made : segment_at after n ≡ x
  pub linked : back after n ≡ link

-- n segments within bounds: none holds more than 64 segments, stands more than 8 groups deep or is more than 512 wide
pub record Sound (cells : List Cell) (n : ℕ) : Type 0 where
  pub few : (i : ℕ) → i < n → size (segment_at cells i) ≤ 64
  pub low : (i : ℕ) → i < n → Low 8 (segment_at cells i)

-- n segments in the order that they are made in: a member begins right after the one before it, and a group that holds others stands right after the last of them
pub record Tidy (cells : List Cell) (n : ℕ) : Type 0 where
  pub begins : (i : ℕ) → i < n → 0 < back cells i → back cells i + size (segment_at cells i) ≡ i + 1
  pub ends : (i : ℕ) → i < n → 1 < size (segment_at cells i) → last_member cells i ≡ i
