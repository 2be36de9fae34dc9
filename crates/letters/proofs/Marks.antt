-- Laws of `marked`: byte by byte, in the order of the code. Assumes nothing.
use Prim.Native.Nat.{ℕ, zero, suc, ◌+◌, ◌-◌, ◌≤◌, ◌<◌}
use mathlib.Core.Path.{◌≡◌, refl, ap, sym, ◌∙◌}
use mathlib.Core.Bool.{Bool, false}
use mathlib.Core.List.{List, [], ◌∷◌}
use lib.ListN.{length, get_or, drop}
use lib.Seq.{get_or-drop, drop-drop}
use borrow.Author.Tests.{le-leb, lt-leb}
use Rattle.buffer.proofs.Parts.{drop_step, first_left}
use Rattle.letters.specs.Letters.{is_alphabetic}
use Rattle.points.specs.Decoding.{size_of, point}
use Rattle.letters.specs.Marked.{opens_letter, left_in, letter_in, seen_as, marked_on, marked}

-- ---- lengths

on_length : (n : ℕ) (l : Bool) (t : List ℕ) → length (marked_on n l t) ≡ length t
unfolding marked_on
on_length n l [] = refl
on_length n l (b ∷ t) = ap suc (on_length (left_in n (b ∷ t) - 1) (letter_in n l (b ∷ t)) t)

-- every byte keeps its place
pub marked_length : (t : List ℕ) → length (marked t) ≡ length t
unfolding marked
marked_length t = on_length 0 false t

-- ---- the character that has the byte at i

module _ (t : List ℕ) (i n : ℕ) (l : Bool) where
  pub left_first : n ≡ 0 → left_in n (drop i t) ≡ size_of (get_or t i 0)
  unfolding left_in
  left_first e = ap (λ (k : ℕ). left_in k (drop i t)) e ∙ ap size_of (first_left t i)

  pub letter_first : n ≡ 0 → letter_in n l (drop i t) ≡ opens_letter (drop i t)
  unfolding letter_in
  letter_first e = ap (λ (k : ℕ). letter_in k l (drop i t)) e

pub left_on : (n : ℕ) (t : List ℕ) → (n ≡ 0 → ⊥) → left_in n t ≡ n
unfolding left_in
left_on zero t h = absurd (h refl)
left_on (suc n) t h = refl

pub letter_on : (n : ℕ) (l : Bool) (t : List ℕ) → (n ≡ 0 → ⊥) → letter_in n l t ≡ l
unfolding letter_in
letter_on zero l t h = absurd (h refl)
letter_on (suc n) l t h = refl

module _ (t : List ℕ) (i : ℕ) where
  pub opens_not : get_or t i 0 < 0xC0 → opens_letter (drop i t) ≡ false
  unfolding opens_letter
  opens_not h = rw (first_left t i, lt-leb 0xC0 (get_or t i 0) h)

  pub opens : 0xC0 ≤ get_or t i 0 → opens_letter (drop i t) ≡ is_alphabetic (point (get_or t i 0) (get_or t (i + 1) 0) (get_or t (i + 2) 0) (get_or t (i + 3) 0))
  unfolding opens_letter
  opens h = rw (first_left t i, le-leb 0xC0 (get_or t i 0) h, get_or-drop i t 1 0, get_or-drop i t 2 0, get_or-drop i t 3 0)

  -- with what the code read: the three bytes behind, and the code point
  pub opens_by : 0xC0 ≤ get_or t i 0 → (x y z p : ℕ) → x ≡ get_or t (i + 1) 0 → y ≡ get_or t (i + 2) 0 → z ≡ get_or t (i + 3) 0 → p ≡ point (get_or t i 0) x y z
      → is_alphabetic p ≡ opens_letter (drop i t)
  opens_by h x y z p ex ey ez ep = cc (opens h)

-- ---- one byte more

on_step : (t : List ℕ) (n : ℕ) (l : Bool) (i : ℕ) → i < length t
    → marked_on n l (drop i t) ≡ seen_as (letter_in n l (drop i t)) (get_or t i 0) ∷ marked_on (left_in n (drop i t) - 1) (letter_in n l (drop i t)) (drop (i + 1) t)
unfolding marked_on
on_step t n l i h =
    let q = drop_step t i h in
    ap (marked_on n l) q
    ∙ ap (λ (s : List ℕ). seen_as (letter_in n l s) (get_or t i 0) ∷ marked_on (left_in n s - 1) (letter_in n l s) (drop (i + 1) t)) (sym q)

-- m goes on from i as t is marked from there; l' and n' are what the code found of the character at i
module _ (t m : List ℕ) (n : ℕ) (l : Bool) (i : ℕ) (h : i < length t) (q : drop i m ≡ marked_on n l (drop i t)) (l' : Bool) (g : l' ≡ letter_in n l (drop i t)) where
  pub byte_marked : (x : ℕ) → x ≡ seen_as l' (get_or t i 0) → x ≡ get_or m i 0
  byte_marked x e =
      e
      ∙ ap (λ (y : Bool). seen_as y (get_or t i 0)) g
      ∙ sym (sym (first_left m i) ∙ ap (λ (s : List ℕ). get_or s 0 0) (q ∙ on_step t n l i h))

  pub rest_marked : (n' : ℕ) → n' ≡ left_in n (drop i t) → drop (i + 1) m ≡ marked_on (n' - 1) l' (drop (i + 1) t)
  rest_marked n' e =
      sym (drop-drop 1 i m)
      ∙ ap (drop 1) (q ∙ on_step t n l i h)
      ∙ ap (λ (y : Bool). marked_on (left_in n (drop i t) - 1) y (drop (i + 1) t)) (sym g)
      ∙ ap (λ (k : ℕ). marked_on (k - 1) l' (drop (i + 1) t)) (sym e)
