-- What a text counts: its characters, or the places that it takes on a screen (document 02, E14). Assumes nothing.
use Rattle.std.specs.Prelude.{ℕ, zero, suc, ◌+◌, ◌-◌, ◌%◌, ◌≡◌, refl, Bool, true, false, List, [], ◌∷◌, ltb}
use Rattle.buffer.specs.Bytes.{bytes}
use Rattle.utf8.specs.Utf8.{within, trail}
use Rattle.characters.specs.Characters.{begins, chars, one_if}
use Rattle.points.specs.Decoding.{size_of, with_six}
use Rattle.points.specs.Ranges.{among, ends, rises_from}
use Rattle.widths.specs.declared.Rule.{Rule}
use Rattle.widths.specs.declared.Pending.{Pending}
use Rattle.widths.specs.declared.Wides.{Wides}
use Rattle.widths.specs.Wide.{wide}

-- whether the character with the code point x is of East Asian Width W or F
unfoldable pub is_wide : ℕ → Bool
is_wide x = among wide x

-- the table's ranges are in order, and no two of them meet
pub wide_in_order : rises_from 0 (ends wide) ≡ true
unfolding rises_from ends wide
wide_in_order = refl

-- ---- the wide characters of a text, byte by byte: a character is wide or not once its last byte has come

-- no character has begun
abbrev pub idle : Pending
idle = record { awaited = 0; bits = 0 }

-- the bits of a code point that the first byte of its character says
unfoldable pub leading : ℕ → ℕ
leading b =
    elim (ltb b 0xC0) [
      | true ↦ 0
      | false ↦ elim (ltb b 0xE0) [ true ↦ b % 0x20 | false ↦ elim (ltb b 0xF0) [ true ↦ b % 0x10 | false ↦ b % 8 ] ]
    ]

-- the character that a byte begins
abbrev pub begun_by : ℕ → Pending
begun_by b = record { awaited = size_of b - 1; bits = leading b }

-- n wide characters, and no other has begun behind them
abbrev pub none_begun : ℕ → Wides
none_begun n = record { pending = idle; wide = n }

-- a byte b that goes on with a character: so many of its bytes were awaited, x are the bits before, and n wide characters stand before it
unfoldable pub gone_on : ℕ → ℕ → ℕ → ℕ → Wides
gone_on zero x n b = none_begun n
gone_on (suc zero) x n b = none_begun (n + one_if (is_wide (with_six x b)))
gone_on (suc (suc more)) x n b = record { pending = record { awaited = suc more; bits = with_six x b }; wide = n }

-- one byte more; one that does not go on with a character ends what has begun
unfoldable pub advanced : Wides → ℕ → Wides
advanced w b =
    elim (within trail b) [
      | true ↦ gone_on w.pending.awaited w.pending.bits w.wide b
      | false ↦ record { pending = begun_by b; wide = w.wide }
    ]

-- a text more
unfoldable pub ran : Wides → List ℕ → Wides
ran w [] = w
ran w (b ∷ s) = ran (advanced w b) s

-- ---- the rule

-- "characters of East Asian Width W or F .. count two and all others one"
unfoldable pub places : List ℕ → ℕ
places t = chars t + (ran (none_begun 0) t).wide

-- "The count used by padding takes the rule as an input"
unfoldable pub count : Rule → List ℕ → ℕ
count Rule.Characters t = chars t
count Rule.Places t = places t

-- the places of some texts
abbrev places_of : List (List ℕ) → List ℕ
places_of [] = []
places_of (t ∷ rest) = places t ∷ places_of rest

site_names : places_of (bytes "壁B3" ∷ bytes "ｶ" ∷ bytes "Ａ" ∷ bytes "é" ∷ bytes "゙" ∷ bytes "😀" ∷ bytes "🇦" ∷ []) ≡ 4 ∷ 1 ∷ 2 ∷ 1 ∷ 2 ∷ 2 ∷ 1 ∷ []
unfolding places ran advanced gone_on leading is_wide wide among within size_of begins
site_names = refl

-- the last character of a range and the one behind it, first and last of the table
ends_of_ranges : places_of (bytes "ჿᄀ" ∷ bytes "\u{115f}\u{1160}" ∷ bytes "\u{3fffd}\u{3fffe}" ∷ []) ≡ 3 ∷ 3 ∷ 3 ∷ []
unfolding places ran advanced gone_on leading is_wide wide among within size_of begins
ends_of_ranges = refl
