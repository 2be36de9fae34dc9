-- The caret stands under the place: as many columns stand before it as characters are shown before the place, whatever the bytes. Assumes nothing.
use Prim.Native.Nat.{ℕ, zero, suc, ◌-◌, ◌≤◌, ◌<◌}
use mathlib.Core.Path.{◌≡◌, refl, ap, sym, ◌∙◌}
use mathlib.Core.Bool.{Bool, true, false, ◌||◌}
use mathlib.Core.List.{List, [], ◌∷◌}
use mathlib.Core.Logic.{◌⊎◌, inl, inr}
use native.Mathlib.Omega.{arith}
use lib.Dec.{eqb, ltb}
use lib.ListN.{length, get_or, take, drop}
use lib.Seq.{take-append-le, take-take}
use borrow.Author.Tests.{ltb-true, eqb-true}
use Rattle.buffer.specs.Bytes.{byte, bytes, part}
use Rattle.buffer.proofs.Parts.{part_length}
use Rattle.buffer.proofs.Sameness.{both_true}
use Rattle.utf8.specs.Utf8.{◌to◌, within}
use Rattle.utf8.proofs.Ranges.{within_in, within_below, within_true}
use Rattle.characters.specs.Characters.{begins, chars}
use Rattle.runs.proofs.Running.{run_within}
use Rattle.caret.specs.Caret.{line_from, line_to, goes_on, is_control, ends_control, harmless, harmless_behind, shown_line}
use Rattle.caret.proofs.Shown.{harmless_control, harmless_two, harmless_as_it_is, shown_length}

-- ---- what is shown begins a character where the text does

either : (p q : Bool) → (p || q) ≡ true → (p ≡ true) ⊎ (q ≡ true)
either true q h = inl refl
either false q h = inr h

ascii_begins : (b : ℕ) → b < 0x80 → begins b ≡ 1
unfolding begins
ascii_begins b h = rw (within_below 0x80 0xBF b h, begins)

control_is_ascii : (b : ℕ) → is_control b ≡ true → b < 0x80
unfolding is_control
control_is_ascii b q = elim (either (ltb b (byte " ")) (eqb b 0x7F) q) [ inl x ↦ omega (arith, ltb-true b 0x20 x) | inr x ↦ omega (arith, eqb-true b 0x7F x) ]

trail_goes_on : (b : ℕ) → 0x80 ≤ b → b ≤ 0xBF → begins b ≡ 0
unfolding begins
trail_goes_on b h g = rw (within_in 0x80 0xBF b h g, begins)

control_goes_on : (before b : ℕ) → ends_control before b ≡ true → begins b ≡ 0
unfolding ends_control
control_goes_on before b q =
    let h = within_true (0x80 to 0x9F) b (both_true (eqb before 0xC2) (within (0x80 to 0x9F) b) q).1 in trail_goes_on b h.0 (omega (arith, h.1))

by_case : (before b : ℕ) (x y : Bool) → is_control b ≡ x → ends_control before b ≡ y → begins (harmless before b) ≡ begins b
by_case before b true y p q = ap begins (harmless_control before b p) ∙ ascii_begins (byte "?") (omega arith) ∙ sym (ascii_begins b (control_is_ascii b p))
by_case before b false true p q = ap begins (harmless_two before b p q) ∙ trail_goes_on 0xBF (omega arith) (omega arith) ∙ sym (control_goes_on before b q)
by_case before b false false p q = ap begins (harmless_as_it_is before b p q)

-- the text has as many characters as it is shown with
pub columns_kept : (before : ℕ) (s : List ℕ) → chars (harmless_behind before s) ≡ chars s
unfolding harmless_behind
columns_kept before [] = refl
columns_kept before (b ∷ s) = omega (arith, by_case before b (is_control b) (ends_control before b) refl refl, columns_kept b s)

-- ---- up to the place

taken : (before n : ℕ) (s : List ℕ) → take n (harmless_behind before s) ≡ harmless_behind before (take n s)
unfolding harmless_behind
taken before zero s = refl
taken before (suc n) [] = refl
taken before (suc n) (b ∷ s) = ap (λ (x : List ℕ). harmless before b ∷ x) (taken b n s)

no_later : (x : Bool) (p i : ℕ) → i ≤ p → (elim x as (λ _. ℕ) [ true ↦ suc p | false ↦ i ]) ≤ suc p
no_later true p i h = omega arith
no_later false p i h = omega arith

from_small : (t : List ℕ) (p : ℕ) → line_from t p ≤ p
unfolding line_from
from_small t zero = omega arith
from_small t (suc p) = no_later (eqb (get_or t p 0) (byte "\n")) p (line_from t p) (from_small t p)

-- as many characters of the line are shown before the place as columns stand before the caret (`caret_line`)
pub caret_under : (t : List ℕ) (p : ℕ) → p ≤ length t → chars (take (p - line_from t p) (shown_line t p)) ≡ chars (part (line_from t p) p t)
unfolding shown_line
caret_under t p h =
    let i = line_from t p in
    let e = line_to t p in
    let f = from_small t p in
    let g = run_within goes_on t (length t) p h in
    let x = part i e t in
    let n : length (harmless_behind 0 x) ≡ e - i = shown_length 0 x ∙ part_length t i e (omega (arith, f, g.0)) g.1 in
    ap chars (take-append-le (p - i) (harmless_behind 0 x) (bytes "\n") (omega (arith, n, g.0)) ∙ taken 0 (p - i) x)
    ∙ columns_kept 0 (take (p - i) x)
    ∙ ap chars (take-take (p - i) (e - i) (drop i t) (omega (arith, g.0)))
