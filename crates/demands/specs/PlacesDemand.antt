-- Document 02, E14: site names in Japanese. Assumes nothing.
use Rattle.std.specs.Prelude.{ℕ, ◌+◌, ◌/◌, ◌%◌, ◌<◌, ◌≡◌, Bool, true, false, List, ◌++◌, length}
use Rattle.buffer.specs.Bytes.{character}
use Rattle.characters.specs.Characters.{chars}
use Rattle.points.specs.Ranges.{ends, rises_from}
use Rattle.widths.specs.declared.Rule.{Rule}
use Rattle.widths.specs.Wide.{wide}
use Rattle.widths.specs.Widths.{is_wide, count}
use Rattle.colour.specs.declared.Settings.{Settings}
use Rattle.colour.specs.declared.Format.{Format}
use Rattle.colour.specs.Sequences.{visible}
use Rattle.colour.specs.Formatting.{due}
use Rattle.settings.specs.Bits.{settings_of}

-- two for a character that is wide, one for any other
unfoldable pub two_or_one : Bool → ℕ
two_or_one true = 2
two_or_one false = 1

-- what padding counts, by either rule
pub record PlacesDemand : Type 0 where
  -- "characters of East Asian Width W or F .. count two and all others one": of every code point
  pub places : (n : ℕ) → n < 0x110000 → count Rule.Places (character n) ≡ two_or_one (is_wide n)
  -- in the crate's rule each character counts one
  pub characters : (n : ℕ) → n < 0x110000 → count Rule.Characters (character n) ≡ 1
  -- all that whatever follows the character: a text counts what its characters count together
  pub one_by_one : (r : Rule) (n : ℕ) → n < 0x110000 → (t : List ℕ) → count r (character n ++ t) ≡ count r (character n) + count r t
  -- the table's ranges are in order, and no two of them meet
  pub in_order : rises_from 0 (ends wide) ≡ true
  -- "a width rule, chosen by settings bit 16"; "The crate's rule stays the default"
  pub chosen : (b : ℕ) → b / 16 % 2 ≡ 1 → (settings_of b).rule ≡ Rule.Places
  pub default : (b : ℕ) → b / 16 % 2 ≡ 0 → (settings_of b).rule ≡ Rule.Characters
  -- "The count used by padding takes the rule as an input": where both rules count the same, the same padding is due
  pub same_due : (s u : Settings) (f : Format) (t : List ℕ) → count s.rule (visible t) ≡ count u.rule (visible t) → due s f t ≡ due u f t
  -- and both count the same where every byte begins a character, as in ASCII
  pub same_ascii : (r q : Rule) (t : List ℕ) → chars t ≡ length t → count r t ≡ count q t
