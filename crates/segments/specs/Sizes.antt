-- Scaffolding, for proofs alone: how many segments there are, how deep groups stand, and how wide they ask to be: what keeps a line's length within bounds. Assumes nothing.
use Rattle.std.specs.Prelude.{ℕ, zero, suc, ◌+◌, ◌≤◌, Option, Some, None}
use Rattle.segments.specs.Segments.{LogSegment, LogSegments, text, specifier, group, none, more}

-- the number of segments, groups and their members both
unfoldable mutual
  pub size : LogSegment → ℕ
  size (text i j) = 1
  size (specifier m f) = 1
  size (group s f) = sizes s + 1

  pub sizes : LogSegments → ℕ
  sizes none = 0
  sizes (more x rest) = size x + sizes rest

-- a width of 512 at most
abbrev pub Narrow : Option ℕ → Type 0
Narrow None = Unit {0}
Narrow (Some n) = n ≤ 512

-- groups stand d deep at most, and each width is 512 at most
abbrev mutual
  pub Low : ℕ → LogSegment → Type 0
  Low d (text i j) = Unit {0}
  Low d (specifier m f) = Narrow f.width
  Low zero (group s f) = ⊥
  Low (suc d) (group s f) = Narrow f.width × Lows d s

  pub Lows : ℕ → LogSegments → Type 0
  Lows d none = Unit {0}
  Lows d (more x rest) = Low d x × Lows d rest
