-- Which characters are letters (document 02, E3). Assumes nothing.
use Rattle.std.specs.Prelude.{ℕ, ◌≡◌, refl, Bool, true, false}
use Rattle.utf8.specs.Utf8.{within}
use Rattle.points.specs.Ranges.{among, ends, rises_from}
use Rattle.letters.specs.Alphabetic.{alphabetic}

-- "decide letters as Rust's `is_alphabetic` does": whether the character with the code point x is a letter
unfoldable pub is_alphabetic : ℕ → Bool
is_alphabetic x = among alphabetic x

-- "several hundred ranges shown sorted and disjoint": where ends rise by turns, no range is empty and each begins behind the one before it
pub sorted_and_disjoint : rises_from 0 (ends alphabetic) ≡ true
unfolding rises_from ends alphabetic
sorted_and_disjoint = refl

e_acute : is_alphabetic 0xE9 ≡ true
unfolding is_alphabetic alphabetic among within
e_acute = refl

combining_accent : is_alphabetic 0x301 ≡ false
unfolding is_alphabetic alphabetic among within
combining_accent = refl

arrow : is_alphabetic 0x2192 ≡ false
unfolding is_alphabetic alphabetic among within
arrow = refl

kelvin_sign : is_alphabetic 0x212A ≡ true
unfolding is_alphabetic alphabetic among within
kelvin_sign = refl
