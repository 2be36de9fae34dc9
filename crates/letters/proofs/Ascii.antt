-- Below 128 the letters are ASCII's: the two ranges in front of the table, and no other begins there. Assumes nothing.
use Prim.Native.Nat.{ℕ, ◌<◌, ◌≤◌}
use mathlib.Core.Path.{◌≡◌, refl, sym, ◌∙◌}
use mathlib.Core.Bool.{Bool, true, false, ◌||◌}
use mathlib.Core.List.{List, [], ◌∷◌}
use native.Mathlib.Nat.{lt_of_lt_of_le}
use native.Mathlib.Omega.{arith}
use lib.Dec.{leb, eqb}
use lib.ListN.{drop}
use borrow.Author.Tests.{leb-true, ne_eqb}
use Rattle.utf8.specs.Utf8.{Range, ◌to◌, within}
use Rattle.utf8.proofs.Ranges.{within_below, within_above}
use Rattle.runs.specs.Runs.{letter, letter_mark}
use Rattle.points.specs.Ranges.{among}
use Rattle.letters.specs.Alphabetic.{alphabetic}
use Rattle.letters.specs.Letters.{is_alphabetic}

-- whether each range begins at l or above it
abbrev begin_from : ℕ → List Range → Bool
begin_from l [] = true
begin_from l (r ∷ rest) = elim (leb l r.first) [ true ↦ begin_from l rest | false ↦ false ]

split : (t u : Bool) → elim t as (λ _. Bool) [ true ↦ u | false ↦ false ] ≡ true → (t ≡ true) × (u ≡ true)
split true u e = (refl, e)
split false u e = (cc, cc)

none_below : (l x : ℕ) → x < l → (rs : List Range) → begin_from l rs ≡ true → among rs x ≡ false
unfolding among
none_below l x h [] e = refl
none_below l x h (r ∷ rest) e =
    let s = split (leb l r.first) (begin_from l rest) e in
    rw (within_below r.first r.last x (lt_of_lt_of_le h (leb-true l r.first s.0)), among) (none_below l x h rest s.1)

others : List Range
others = drop 2 alphabetic

others_above : begin_from 0x80 others ≡ true
unfolding others alphabetic
others_above = refl

two_first : (x : ℕ) → among alphabetic x ≡ elim (within (0x41 to 0x5A) x) [ true ↦ true | false ↦ elim (within (0x61 to 0x7A) x) [ true ↦ true | false ↦ among others x ] ]
unfolding among alphabetic others
two_first x = refl

either : (p q r m : Bool) → r ≡ false → m ≡ false → elim p as (λ _. Bool) [ true ↦ true | false ↦ elim q [ true ↦ true | false ↦ r ] ] ≡ (p || q || m)
either true q r m e f = refl
either false true r m e f = refl
either false false r m e f = cc

-- the letters below 128
pub ascii : (b : ℕ) → b < 0x80 → letter b ≡ is_alphabetic b
unfolding is_alphabetic letter
ascii b h =
    let no : eqb b letter_mark ≡ false = ne_eqb b letter_mark (λ e. omega (arith, e)) in
    sym (two_first b ∙ either (within (0x41 to 0x5A) b) (within (0x61 to 0x7A) b) (among others b) (eqb b letter_mark) (none_below 0x80 b h others others_above) no)

-- no byte of a character of several bytes is a letter by itself
pub beyond : (b : ℕ) → 0x80 ≤ b → b ≤ 0xF4 → letter b ≡ false
unfolding letter
beyond b h g = rw (within_above 0x41 0x5A b (omega arith), within_above 0x61 0x7A b (omega arith), ne_eqb b letter_mark (λ e. omega (arith, e)))
