-- Scaffolding, for proofs alone: the second look at a template, over places alone: what the code does, and no more. Of a template that was read it gives the
-- first place of Unused.antt's notes (proofs/Agreed.antt); of others nothing is asked. Assumes nothing.
use Rattle.std.specs.Prelude.{Option, Some, None, Ok, Err, ◌<◌, ℕ, zero, suc, ◌+◌, ◌-◌, ◌≤◌, ◌≡◌, Bool, true, false, not, List, length}
use Rattle.buffer.specs.Bytes.{byte}
use Rattle.buffer.specs.Table.{Maybe, none, some}
use Rattle.runs.specs.Runs.{stands}
use Rattle.words.specs.Trying.{Tried, fit, misfit, refused, ◌or_else◌, ◌then◌, repeated, listed}
use Rattle.words.specs.Words.{parameter_at}
use Rattle.segments.specs.Segments as segments
use Rattle.braces.specs.Braces.{Closing, closing}
use Rattle.building.specs.Reading.{text_at, separator, Top, top_at}
use Rattle.endings.specs.Ending.{Ends, end_of, word_end, plain_end}
use Rattle.unused.specs.declared.Look.{Look}
use Rattle.unused.specs.declared.Seen.{Seen}
use Rattle.unused.specs.Unused.{sooner, first_of, dropped_from}

-- ---- places

-- a place that the code holds, if it holds one
abbrev pub place_told : Option ℕ → Maybe ℕ
place_told (Some p) = some p
place_told None = none

-- one that it holds is below n
abbrev pub PlaceBelow : ℕ → Option ℕ → Type 0
PlaceBelow n (Some p) = p < n
PlaceBelow n None = Unit {0}

-- something that ends there, if it does
abbrev pub reaches : {S : Type 0} → Ends → S → Tried S
reaches (Some j) s = fit s j
reaches None s = misfit

-- ---- contents

-- a content so far: the first place that it leaves unused, the first of its parameters, whether it takes a group or inner segment
pub record Sight : Type 0 where
  pub unused : Maybe ℕ
  pub asked : Maybe ℕ
  pub takes : Bool

abbrev pub tell_look : Look → Sight
tell_look c = record { unused = place_told c.unused; asked = place_told c.asked; takes = c.takes }

abbrev pub Looker : Type 0
Looker = ℕ → ℕ → Tried (Maybe ℕ)

abbrev pub worded : Bool → Sight → Sight
worded true c = record { unused = c.unused; asked = c.asked; takes = true }
worded false c = c

abbrev pub asking_from : Sight → ℕ → Sight
asking_from c i = record { unused = c.unused; asked = sooner (some i) c.asked; takes = c.takes }

abbrev pub grouping : Sight → Maybe ℕ → Sight
grouping c u = record { unused = sooner c.unused u; asked = c.asked; takes = true }

unfoldable pub look_item : Bool → List ℕ → Looker → ℕ → ℕ → Sight → Tried Sight
look_item even t group e i c =
    reaches (word_end even t i e) (worded even c)
    or_else λ _. reaches (end_of (parameter_at t i e)) (asking_from c i)
    or_else λ _. group i e then λ u j. fit (grouping c u) j

abbrev pub lost_if : Bool → Maybe ℕ → Maybe ℕ
lost_if true asked = asked
lost_if false asked = none

abbrev pub left_by_content : Sight → ℕ → ℕ → Maybe ℕ
left_by_content c j e = sooner c.unused (sooner (lost_if c.takes c.asked) (first_of (dropped_from j e)))

abbrev pub no_sight : Sight
no_sight = record { unused = none; asked = none; takes = false }

unfoldable pub look_content : Bool → List ℕ → Looker → Looker
look_content even t group i e = listed (separator even) t e (look_item even t group e) i no_sight then λ c j. fit (left_by_content c j e) j

-- ---- groups and braces

unfoldable pub look_piece : List ℕ → Looker → ℕ → ℕ → Maybe ℕ → Tried (Maybe ℕ)
look_piece t brace e i u =
    (brace i e then λ v j. fit (sooner u v) j)
    or_else λ _. reaches (plain_end t i e) u

unfoldable pub look_group : List ℕ → Looker → Looker
look_group t brace i e = repeated (look_piece t brace e) (e - i) i none

abbrev pub look_brace_to : Looker → ℕ → Closing → Tried (Maybe ℕ)
look_brace_to inside i (Ok (Some c)) = inside (i + 1) c then λ u j. fit u (c + 1)
look_brace_to inside i (Ok None) = misfit
look_brace_to inside i (Err r) = misfit

unfoldable pub look_brace : List ℕ → Looker → Looker
look_brace t inside i e =
    elim (stands (byte "{") t i e) [
      | true ↦ look_brace_to inside i (closing t (e - (i + 1)) (i + 1) 0 false)
      | false ↦ misfit
    ]

unfoldable pub look_inside : ℕ → Bool → List ℕ → Looker
look_inside zero even t = λ i e. fit none i
look_inside (suc d) even t = look_content even t (look_group t (look_brace t (look_inside d (not even) t)))

-- a brace and a group where so many depths are left
abbrev pub look_brace_in : ℕ → Bool → List ℕ → Looker
look_brace_in d even t = look_brace t (look_inside d even t)

abbrev pub look_group_in : ℕ → Bool → List ℕ → Looker
look_group_in d even t = look_group t (look_brace_in d even t)

abbrev pub tell_piece_look : Option Seen → Tried (Maybe ℕ)
tell_piece_look (Some s) = fit (place_told s.unused) s.end
tell_piece_look None = misfit

abbrev pub PieceLooked : ℕ → ℕ → Option Seen → Type 0
PieceLooked lo to (Some s) = (lo ≤ s.end) × (s.end ≤ to)
PieceLooked lo to None = Unit {0}

-- ---- the top level

unfoldable pub look_top : List ℕ → ℕ → ℕ → Maybe ℕ → Tried (Maybe ℕ)
look_top t e i u =
    (look_brace_in 8 false t i e then λ v j. fit (sooner u v) j)
    or_else λ _. reaches (end_of (text_at t i e 0)) u

unfoldable pub left_up_to : ℕ → Tried (Maybe ℕ) → Maybe ℕ
left_up_to e (fit u j) = sooner u (first_of (dropped_from j e))
left_up_to e misfit = none
left_up_to e (refused r) = none

unfoldable pub tops_looked : List ℕ → Tried (Maybe ℕ)
tops_looked t = repeated (look_top t (length t)) (length t) 0 none

unfoldable pub left_over : List ℕ → Maybe ℕ
left_over t = left_up_to (length t) (tops_looked t)

-- the template was read: nothing in it was refused
pub record WasRead (t : List ℕ) : Type 0 where
  pub top : Top
  pub end : ℕ
  pub reads : repeated (top_at t (length t)) (length t) 0 (record { segments = segments.none; made = 0 }) ≡ fit top end
