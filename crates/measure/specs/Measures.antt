-- Scaffolding, for proofs alone: what measuring a text gives: all that is known of it without its bytes. Assumes nothing.
use Rattle.std.specs.Prelude.{ℕ, zero, suc, ◌+◌, ◌-◌, ◌*◌, ◌≤◌, ◌<◌, ◌^◌, ◌≡◌, Bool, true, false, List, [], ◌∷◌, eqb, ltb, length}
use Rattle.characters.specs.Characters.{chars}
use Rattle.widths.specs.declared.Rule.{Rule}
use Rattle.widths.specs.declared.Pending.{Pending}
use Rattle.widths.specs.declared.Wides.{Wides}
use Rattle.widths.specs.Fitting.{FewBits}
use Rattle.colour.specs.declared.Scan.{Scan}
use Rattle.colour.specs.declared.Settings.{Settings}
use Rattle.colour.specs.declared.Format.{Format}
use Rattle.colour.specs.Formatting.{prefix_in, counted}
use Rattle.colour.specs.Sequences.{esc}
use Rattle.colour.specs.Machine.{scan, resting, start}
use Rattle.colour.specs.Seeing.{seen_after}
use Rattle.measure.specs.declared.Eye.{Eye}
use Rattle.measure.specs.declared.Measure.{Measure}

-- ---- the eye: by which rule it counts, and the character that has begun before it

-- no character has begun
abbrev pub fresh : Rule → Eye
fresh rule = record { rule = rule; awaited = 0; bits = 0 }

-- a character has begun, so many of its bytes are awaited, and no wide one is counted yet
abbrev pub begun_with : ℕ → ℕ → Wides
begun_with awaited bits = record { pending = record { awaited = awaited; bits = bits }; wide = 0 }

-- an eye that counts places, behind what is seen
abbrev pub eye_on : Pending → Eye
eye_on p = record { rule = Rule.Places; awaited = p.awaited; bits = p.bits }

-- what is seen of a text by an eye that looks, where the search is t
abbrev pub seen_by : Eye → Scan → List ℕ → Wides
seen_by e t s = seen_after t (begun_with e.awaited e.bits) s

-- by the crate's rule the eye stays shut
abbrev pub looking : Rule → Eye → Pending → Eye
looking Rule.Characters e p = e
looking Rule.Places e p = eye_on p

-- the eye after a text
abbrev pub eye_after : Eye → Scan → List ℕ → Eye
eye_after e t s = looking e.rule e (seen_by e t s).pending

-- what counts one more, by the rule
abbrev pub second : Rule → ℕ → ℕ
second Rule.Characters n = 0
second Rule.Places n = n

-- the wide characters of a text that are counted
abbrev pub wide_in : Eye → Scan → List ℕ → ℕ
wide_in e t s = second e.rule (seen_by e t s).wide

-- the eye behind so many bytes that were held and are let go
abbrev pub let_go_in : Rule → Eye → ℕ → Eye
let_go_in Rule.Characters e k = e
let_go_in Rule.Places e zero = e
let_go_in Rule.Places e (suc k) = fresh Rule.Places

abbrev pub let_go_by : Eye → ℕ → Eye
let_go_by e k = let_go_in e.rule e k

-- the eye behind padding, where the search rests after it or not
abbrev pub behind_in : Rule → Eye → Bool → Eye
behind_in Rule.Characters e rests = e
behind_in Rule.Places e true = fresh Rule.Places
behind_in Rule.Places e false = e

abbrev pub behind_padding : Eye → Bool → Eye
behind_padding e rests = behind_in e.rule e rests

-- ---- measures

-- whether a text is ASCII without byte 27
unfoldable pub is_plain : List ℕ → Bool
is_plain [] = true
is_plain (b ∷ s) = elim (ltb b 0x80) [ true ↦ elim (eqb b esc) [ true ↦ false | false ↦ is_plain s ] | false ↦ false ]

-- nothing yet
abbrev pub nothing : Rule → Measure
nothing rule = record { scan = start; eye = fresh rule; count = 0; len = 0 }

-- a text more
abbrev pub grown : Measure → List ℕ → Measure
grown a s = record {
  scan = scan a.scan s;
  eye = eye_after a.eye a.scan s;
  count = a.count + (chars s + wide_in a.eye a.scan s);
  len = a.len + length s;
}

-- n bytes more that stand in whole sequences, none of them a reset
abbrev pub more : Measure → ℕ → Measure
more a n = record {
  scan = record { state = a.scan.state; held = a.scan.held; sequences = a.scan.sequences + n; resets = a.scan.resets };
  eye = a.eye;
  count = a.count + n;
  len = a.len + n;
}

-- one whole sequence of n bytes after what a measures, m of them a reset: its first byte ends what has begun
abbrev pub Longer : Measure → ℕ → ℕ → Measure → Type 0
Longer a n m r =
    (r.scan ≡ resting (a.scan.sequences + n) (a.scan.resets + m)) × ((r.eye ≡ let_go_by a.eye a.scan.held) × ((r.count ≡ a.count + n) × (r.len ≡ a.len + n)))

-- no number of a measure is larger than its bytes
pub record Small (a : Measure) : Type 0 where
  pub resets : a.scan.resets ≤ a.len
  pub count : a.count ≤ a.len
  pub seen : a.scan.sequences + a.scan.held ≤ a.count
  pub few : FewBits a.eye.awaited a.eye.bits

-- n bytes more can be measured
abbrev pub Measurable : Measure → ℕ → Type 0
Measurable a n = (Small a) × (a.len + n < 2 ^ 58)

-- the bytes that a format inserts after the resets of a text measured as x
unfoldable pub inserted_in : Settings → Format → Measure → ℕ
inserted_in s f x = x.scan.resets * length (prefix_in s.colour f.look)

-- the padding that a format gives to a text measured as x, into which n bytes are inserted
unfoldable pub padding_in : Settings → Format → Measure → ℕ → ℕ
padding_in s f x n = counted s.straight (f.width - (x.count - x.scan.sequences)) n
