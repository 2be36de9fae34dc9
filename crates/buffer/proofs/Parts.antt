-- Laws of parts of a list of bytes. Assumes nothing.
use mathlib.Core.Path.{◌≡◌, ap, sym, ◌∙◌}
use mathlib.Core.List.{List, [], ◌∷◌, ◌++◌}
use Prim.Native.Nat.{ℕ, suc, ◌+◌, ◌-◌, ◌<◌, ◌≤◌}
use native.Mathlib.Nat.{add-zero, sub_self}
use native.Mathlib.Numerals.{add-one}
use native.Mathlib.Omega.{arith}
use lib.ListN.{length, take, drop, get_or, length-drop}
use lib.Seq.{drop-cons, take-suc, length-take-le, get_or-drop, drop-drop}
use Rattle.buffer.specs.Bytes.{part}

-- what is left at a place is the byte there and what is left after it
pub drop_step : (s : List ℕ) (i : ℕ) → i < length s → drop i s ≡ get_or s i 0 ∷ drop (i + 1) s
drop_step s i h = rw (add-one, drop-cons s i 0)

-- the first byte of what is left at a place is the byte there
pub first_left : (s : List ℕ) (i : ℕ) → get_or (drop i s) 0 0 ≡ get_or s i 0
first_left s i = get_or-drop i s 0 0 ∙ ap (λ (k : ℕ). get_or s k 0) (add-zero i)

-- two lists that agree from a place on have the same byte there
pub same_byte : (a b : List ℕ) (i : ℕ) → drop i a ≡ drop i b → get_or a i 0 ≡ get_or b i 0
same_byte a b i e = sym (first_left a i) ∙ ap (λ (l : List ℕ). get_or l 0 0) e ∙ first_left b i

-- two lists that agree from a place on agree from the next on
pub drop_more : (a b : List ℕ) (i : ℕ) → drop i a ≡ drop i b → drop (i + 1) a ≡ drop (i + 1) b
drop_more a b i e = sym (drop-drop 1 i a) ∙ ap (drop 1) e ∙ drop-drop 1 i b

-- a part is its first byte and the part after that
pub part_step : (d : List ℕ) (i e : ℕ) → i < e → e ≤ length d → part i e d ≡ get_or d i 0 ∷ part (i + 1) e d
part_step d i e h g =
    let k : e - i ≡ suc (e - (i + 1)) = omega arith in
    ap (λ (n : ℕ). take n (drop i d)) k
    ∙ ap (take (suc (e - (i + 1)))) (drop-cons d i 0 (omega arith))
    ∙ ap (λ (n : ℕ). get_or d i 0 ∷ take (e - (i + 1)) (drop n d)) (sym (add-one i))

-- a part with one byte more is that byte after it
pub part_snoc : (d : List ℕ) (i j : ℕ) → i ≤ j → j < length d → part i (j + 1) d ≡ part i j d ++ (get_or d j 0 ∷ [])
part_snoc d i j h g =
    let k : (j + 1) - i ≡ suc (j - i) = omega arith in
    let e : i + (j - i) ≡ j = omega arith in
    ap (λ (n : ℕ). take n (drop i d)) k
    ∙ take-suc (drop i d) (j - i) 0 (omega (arith, length-drop i d))
    ∙ ap (λ (b : ℕ). take (j - i) (drop i d) ++ (b ∷ [])) (get_or-drop i d (j - i) 0 ∙ ap (λ (n : ℕ). get_or d n 0) e)

pub part_length : (d : List ℕ) (i e : ℕ) → i ≤ e → e ≤ length d → length (part i e d) ≡ e - i
part_length d i e h g = length-take-le (e - i) (drop i d) (omega (arith, length-drop i d))

pub part_end : (d : List ℕ) (e : ℕ) → part e e d ≡ []
part_end d e = ap (λ (n : ℕ). take n (drop e d)) (sub_self e)
