-- Scaffolding, for proofs alone: what each case of the readers' answers says, and what a reader keeps besides its answer. Assumes nothing.
use Rattle.refusals.specs.declared.Refusal.{Refusal}
use Rattle.std.specs.Prelude.{Option, Result, ℕ, ◌+◌, ◌-◌, ◌≤◌, ◌<◌, ◌≡◌, Bool, true, false, ◌||◌, List, length, take}
use Rattle.words.specs.Words.{parameter_at}
use Rattle.words.specs.Within.{told, told_read, Fitting}
use Rattle.words.specs.Trying.{Tried, fit, ◌or_else◌, ◌then◌, further}
use Rattle.segments.specs.declared.Cell.{Cell}
use Rattle.segments.specs.Segments.{any_specifier}
use Rattle.segments.specs.Sizes.{size, sizes, Narrow, Low, Lows}
use Rattle.segments.specs.Pool.{segment_at, chain_at, back, Sound, Tidy}
use Rattle.parts.specs.declared.Parts.{Parts}
use Rattle.building.specs.declared.Inner.{Inner}
use Rattle.building.specs.declared.Items.{Items}
use Rattle.building.specs.declared.Pieces.{Pieces}
use Rattle.parts.specs.Parts.{with_parameter}
use Rattle.building.specs.Reading.{Made, Taken, nothing, one, several, Content, Group, text_at, word_at, inner_at, with_words, with_segment, with_member, with_asked, percent_at, built, separator, item_in}

-- ---- what the answers say

-- what readers answer: the place after what fits and what it is, that nothing fits, or a refusal
abbrev pub Read : Type 0 → Type 0
Read A = Result (Option (ℕ × A)) Refusal

-- a list of words
abbrev pub tell_parts : Read Parts → Tried Parts
tell_parts = told_read

-- a segment: the one made last
unfoldable pub last_made : List Cell → ℕ → Made
last_made cells k = record { segment = segment_at cells (k - 1); made = k }

abbrev pub tell : Read ℕ → List Cell → Tried Made
tell r cells = told (last_made cells) r

-- what a content has taken: where it is one segment, the one made last
unfoldable pub tell_inner : Inner → ℕ → List Cell → Taken
tell_inner Inner.Nothing made cells = nothing
tell_inner Inner.One made cells = one (segment_at cells (made - 1))
tell_inner Inner.Several made cells = several

unfoldable pub tell_items : Items → List Cell → Content
tell_items c cells = record { parts = c.parts; taken = tell_inner c.inner c.made cells; made = c.made }

abbrev pub tell_item : Read Items → List Cell → Tried Content
tell_item r cells = told (λ c. tell_items c cells) r

-- a group so far: its members are those back from the last
unfoldable pub tell_pieces : Pieces → List Cell → Group
tell_pieces g cells = record { members = chain_at cells g.last; parts = g.parts; made = g.made }

abbrev pub tell_piece : Read Pieces → List Cell → Tried Group
tell_piece r cells = told (λ g. tell_pieces g cells) r

-- ---- parts of the readers that have functions of their own

-- an item that is no group
unfoldable pub plain_item : Bool → List ℕ → ℕ → ℕ → Content → Tried Content
plain_item true t e i c =
    (inner_at t i e c.made then λ x j. fit (with_segment c x) j)
    or_else λ _. parameter_at t i e then λ a j. fit (with_words c (with_parameter c.parts a)) j
plain_item false t e i c = word_at t e i c.parts then λ p j. fit (with_words c p) j

-- a piece of a group that is no brace
unfoldable pub plain_piece : List ℕ → ℕ → ℕ → Group → Tried Group
plain_piece t e i g =
    (text_at t i e g.made then λ x j. fit (with_member g x) j)
    or_else λ _. percent_at t i e then λ a j. fit (with_asked g a) j

-- what the items of a content add up to
unfoldable pub built_of : Content → ℕ → Tried Made
built_of c j = built c.parts c.made j c.taken

-- what follows the items of a content that were read, up to what they add up to: m bytes are left at most
abbrev pub further_built : ℕ → Bool → List ℕ → ℕ → ℕ → ℕ → Content → Tried Made
further_built d even t e m i c = further (separator even) t e (item_in d even t e) m i c then built_of

-- an item with one segment more, the last of k
unfoldable pub next_inner : Inner → Inner
next_inner Inner.Nothing = Inner.One
next_inner Inner.One = Inner.Several
next_inner Inner.Several = Inner.Several

unfoldable pub with_last : Items → ℕ → Items
with_last c k = record { parts = c.parts; inner = next_inner c.inner; made = k }

-- a group with one member more, the last of k
unfoldable pub joined_by : Pieces → Bool → ℕ → Pieces
joined_by g direct k = record { parts = g.parts; last = k; direct = g.direct || direct; made = k }

-- ---- what is kept

-- room for 64 segments, of which n are made; one that is made next may link back as asked
pub record Room (cells : List Cell) (n link : ℕ) : Type 0 where
  pub room : 64 ≤ length cells
  pub few : n ≤ 64
  pub linked : link ≤ n
  pub sound : Sound cells n

-- what is made from n up to k is tidy where what is made up to n is, and the link of the segment leads to the one made last, or nowhere
abbrev pub StaysTidy : ℕ → ℕ → ℕ → List Cell → Type 0
StaysTidy n k link cells = Tidy cells n → (0 < link → link ≡ n) → Tidy cells k

-- words that fit end from lo up to `to`
abbrev pub PartsWithin : ℕ → ℕ → Read Parts → Type 0
PartsWithin lo to = Fitting (λ j p. (lo ≤ j) × ((j ≤ to) × Narrow p.format.width))

-- a segment that fits: it ends from lo up to `to`, is the last of k, begins where n were made, links back as asked and stands at most d deep
pub record Fitted (lo to n link d : ℕ) (cells : List Cell) (j k : ℕ) : Type 0 where
  pub from : lo ≤ j
  pub end : j ≤ to
  pub more : n + 1 ≤ k
  pub few : k ≤ 64
  pub linked : back cells (k - 1) ≡ link
  pub counted : size (segment_at cells (k - 1)) + n ≡ k
  pub low : Low d (segment_at cells (k - 1))
  pub sound : Sound cells k
  pub tidy : StaysTidy n k link cells

abbrev pub ReadingWithin : ℕ → ℕ → ℕ → ℕ → ℕ → List Cell → Read ℕ → Type 0
ReadingWithin lo to n link d cells = Fitting (λ j k. Fitted lo to n link d cells j k)

-- the segments made before stand as they were
pub record Keeps (lo to n link d : ℕ) (before after : List Cell) (r : Read ℕ) : Type 0 where
  pub front : take n after ≡ take n before
  pub within : ReadingWithin lo to n link d after r

-- what a content has taken, having begun with n segments
unfoldable pub InnerKeeps : ℕ → ℕ → ℕ → List Cell → ℕ → Inner → Type 0
InnerKeeps n link d cells made Inner.Nothing = made ≡ n
InnerKeeps n link d cells made Inner.One = (n + 1 ≤ made) × ((back cells (made - 1) ≡ link) × ((size (segment_at cells (made - 1)) + n ≡ made) × (Low d (segment_at cells (made - 1)) × StaysTidy n made link cells)))
InnerKeeps n link d cells made Inner.Several = Unit {0}

-- a segment that was taken was made
unfoldable pub InnerMade : ℕ → Inner → Type 0
InnerMade made Inner.Nothing = Unit {0}
InnerMade made Inner.One = 1 ≤ made
InnerMade made Inner.Several = Unit {0}

-- what the items of a content have
pub record ItemsReady (c : Items) : Type 0 where
  pub narrow : Narrow c.parts.format.width
  pub taken : InnerMade c.made c.inner

-- what they have, having begun with n segments
pub record ItemsKeep (n link d : ℕ) (cells : List Cell) (c : Items) : Type 0 where
  pub ready : ItemsReady c
  pub least : n ≤ c.made
  pub few : c.made ≤ 64
  pub sound : Sound cells c.made
  pub inner : InnerKeeps n link d cells c.made c.inner

abbrev pub ItemWithin : ℕ → ℕ → ℕ → ℕ → ℕ → List Cell → Read Items → Type 0
ItemWithin lo to n link d cells = Fitting (λ j c. (lo ≤ j) × ((j ≤ to) × ItemsKeep n link d cells c))

-- what a group has
pub record PiecesReady (cells : List Cell) (g : Pieces) : Type 0 where
  pub narrow : Narrow g.parts.format.width
  pub last : g.last ≤ g.made
  pub direct : g.direct ≡ any_specifier (chain_at cells g.last)

-- what it has, having begun with n segments
pub record PiecesKeep (n d : ℕ) (cells : List Cell) (g : Pieces) : Type 0 where
  pub ready : PiecesReady cells g
  pub few : g.made ≤ 64
  pub sound : Sound cells g.made
  pub counted : sizes (chain_at cells g.last) + n ≡ g.made
  pub low : Lows d (chain_at cells g.last)
  pub linked : 0 < g.last → g.last ≡ g.made
  pub tidy : Tidy cells n → Tidy cells g.made

abbrev pub PieceWithin : ℕ → ℕ → ℕ → ℕ → List Cell → Read Pieces → Type 0
PieceWithin lo to n d cells = Fitting (λ j g. (lo ≤ j) × ((j ≤ to) × PiecesKeep n d cells g))

-- ---- what making a segment at j keeps, wherever it began: of words with `instead` where they make none, of a content, of a group

abbrev pub MakeKeeps : ℕ → ℕ → ℕ → List Cell → List Cell → Read ℕ → Read ℕ → Type 0
MakeKeeps j n link before after instead r =
    (lo to d : ℕ) → lo ≤ j → j ≤ to → ReadingWithin lo to n link d after instead → Keeps lo to n link d before after r

abbrev pub BuildKeeps : ℕ → ℕ → List Cell → List Cell → Items → Read ℕ → Type 0
BuildKeeps j link before after c r =
    (lo to n d : ℕ) → lo ≤ j → j ≤ to → ItemsKeep n link d before c → Keeps lo to n link d before after r

abbrev pub GroupKeeps : ℕ → ℕ → List Cell → List Cell → Pieces → Read ℕ → Type 0
GroupKeeps j link before after g r =
    (lo to n d : ℕ) → lo ≤ j → j ≤ to → d + 1 ≤ 8 → PiecesKeep n d before g → Keeps lo to n link (d + 1) before after r
