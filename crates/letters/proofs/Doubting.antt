-- Where the quick look leaves no doubt, nothing is marked. Assumes nothing.
use Prim.Native.Nat.{ℕ, zero, suc, min, max, ◌+◌, ◌-◌, ◌≤◌, ◌<◌}
use mathlib.Core.Path.{◌≡◌, refl, ap, sym, subst, ◌∙◌}
use mathlib.Core.Bool.{Bool, true, false, ◌&&◌}
use mathlib.Core.List.{List, [], ◌∷◌, ◌++◌}
use native.Mathlib.Decide.{dec_lt}
use native.Mathlib.Omega.{arith}
use lib.Dec.{leb, eqb}
use lib.ListN.{length, get_or, get_or-eq_default}
use borrow.Author.Tests.{leb-true, eq-eqb, ne_eqb}
use Rattle.std.specs.Prelude.{bit_and, bit_or}
use Rattle.utf8.specs.Windows.{less, top_of}
use Rattle.utf8.proofs.Greatest.{top_any}
use Rattle.points.specs.Decoding.{point}
use Rattle.points.specs.Ranges.{ends}
use Rattle.points.proofs.Halving.{up_to_next}
use Rattle.points.proofs.Lookup.{among_odd}
use Rattle.points.proofs.Decoded.{point_three}
use Rattle.letters.specs.Alphabetic.{alphabetic}
use Rattle.letters.specs.Letters.{is_alphabetic}
use Rattle.letters.specs.Marked.{opens_letter, left_in, letter_in, seen_as, marked_on, marked}
use Rattle.letters.specs.Doubting.{doubt_of, doubt_in, Clear, Looked}
use Rattle.letters.proofs.Rising.{rising}

-- ---- from U+2500 up to U+2BFF there is no letter

-- the ranges on both sides: one ends before U+24EA, the next begins with U+2C00
many : 628 < length (ends alphabetic)
unfolding ends alphabetic
many = omega arith

low : get_or (ends alphabetic) 627 0 ≡ 0x24EA
unfolding ends alphabetic
low = refl

high : get_or (ends alphabetic) 628 0 ≡ 0x2C00
unfolding ends alphabetic
high = refl

no_sign : (x : ℕ) → 0x24EA ≤ x → x < 0x2C00 → is_alphabetic x ≡ false
unfolding is_alphabetic
no_sign x f g = sym (among_odd alphabetic x 628 (up_to_next (ends alphabetic) x 627 rising many (omega (arith, low, f)) (omega (arith, high, g))))

sign : (a b c d : ℕ) → a ≡ 0xE2 → 0x94 ≤ b → b ≤ 0xAF → is_alphabetic (point a b c d) ≡ false
sign a b c d e f g =
    let p = point_three a b c d (omega (arith, e)) (omega (arith, e)) in
    no_sign (point a b c d) (omega (arith, p, e, f, g)) (omega (arith, p, e, f, g))

-- ---- nothing is marked

none_of : (p q : ℕ) → max p q ≡ 0 → (p ≡ 0) × (q ≡ 0)
none_of p q e = (omega arith, omega arith)

other_of : (p q : ℕ) → min p q ≡ 0 → 1 ≤ p → q ≡ 0
other_of p q e h = omega arith

less_none : (x y : ℕ) → less x y ≡ 0 → y ≤ x
less_none x y e = omega arith

less_some : (x y : ℕ) → x < y → 1 ≤ less x y
less_some x y h = omega arith

neither : (x y : ℕ) → less x y ≡ 0 → less y x ≡ 0 → x ≡ y
neither x y e f = omega arith

-- a first byte beyond ASCII that leaves no doubt, and the byte behind it
sign_bytes : (a b : ℕ) → doubt_of a b ≡ 0 → 0xC0 ≤ a → (a ≡ 0xE2) × (0x94 ≤ b) × (b ≤ 0xAF)
unfolding doubt_of
sign_bytes a b e h =
    let m = other_of (less 0xBF a) _ e (less_some 0xBF a h) in
    let n = none_of (max (less a 0xE2) (less 0xE2 a)) (max (less b 0x94) (less 0xAF b)) m in
    let x = none_of (less a 0xE2) (less 0xE2 a) n.0 in
    let y = none_of (less b 0x94) (less 0xAF b) n.1 in
    (neither a 0xE2 x.0 x.1, less_none b 0x94 y.0, less_none 0xAF b y.1)

no_doubt : (a b c d : ℕ) → doubt_of a b ≡ 0 → (leb 0xC0 a && is_alphabetic (point a b c d)) ≡ false
no_doubt a b c d e = by (leb 0xC0 a) refl
  where
    by : (x : Bool) → leb 0xC0 a ≡ x → (x && is_alphabetic (point a b c d)) ≡ false
    by true f = let w = sign_bytes a b e (leb-true 0xC0 a f) in sign a b c d w.0 w.1 w.2
    by false f = refl

unopened : (a : ℕ) (t : List ℕ) → doubt_in (a ∷ t) ≡ 0 → (opens_letter (a ∷ t) ≡ false) × (doubt_in t ≡ 0)
unfolding opens_letter doubt_in
unopened a t e = (no_doubt a (get_or t 0 0) (get_or t 1 0) (get_or t 2 0) (omega (arith, e)), omega (arith, e))

no_letter : (n a : ℕ) (t : List ℕ) → opens_letter (a ∷ t) ≡ false → letter_in n false (a ∷ t) ≡ false
unfolding letter_in
no_letter zero a t e = e
no_letter (suc n) a t e = refl

as_it_is : (n : ℕ) (t : List ℕ) → doubt_in t ≡ 0 → marked_on n false t ≡ t
unfolding marked_on seen_as
as_it_is n [] e = refl
as_it_is n (a ∷ t) e =
    let u = unopened a t e in
    ap (λ (l : Bool). seen_as l a ∷ marked_on (left_in n (a ∷ t) - 1) l t) (no_letter n a t u.0)
    ∙ ap (λ (s : List ℕ). a ∷ s) (as_it_is (left_in n (a ∷ t) - 1) t u.1)

-- a template that leaves no doubt is seen as it is
pub undoubted : (t : List ℕ) → doubt_in t ≡ 0 → marked t ≡ t
unfolding marked
undoubted t e = as_it_is 0 t e

-- ---- the look itself

-- of numbers that are 0 or 1 the bits say the lesser and the greater
or_is : (x y : ℕ) → x ≤ 1 → y ≤ 1 → bit_or x y ≡ max x y
or_is zero zero f g = refl
or_is zero (suc zero) f g = refl
or_is (suc zero) zero f g = refl
or_is (suc zero) (suc zero) f g = refl
or_is (suc (suc x)) y f g = absurd (let z : ⊥ = omega (arith, f) in z)
or_is zero (suc (suc y)) f g = absurd (let z : ⊥ = omega (arith, g) in z)
or_is (suc zero) (suc (suc y)) f g = absurd (let z : ⊥ = omega (arith, g) in z)

and_is : (x y : ℕ) → x ≤ 1 → y ≤ 1 → bit_and x y ≡ min x y
and_is zero zero f g = refl
and_is zero (suc zero) f g = refl
and_is (suc zero) zero f g = refl
and_is (suc zero) (suc zero) f g = refl
and_is (suc (suc x)) y f g = absurd (let z : ⊥ = omega (arith, f) in z)
and_is zero (suc (suc y)) f g = absurd (let z : ⊥ = omega (arith, g) in z)
and_is (suc zero) (suc (suc y)) f g = absurd (let z : ⊥ = omega (arith, g) in z)

small : (x y : ℕ) → less x y ≤ 1
small x y = omega arith

-- what the code puts together, part by part
pub doubt_told : (a b l x y z w : ℕ) → l ≡ less 0xBF a → x ≡ less a 0xE2 → y ≡ less 0xE2 a → z ≡ less b 0x94 → w ≡ less 0xAF b
    → bit_and l (bit_or (bit_or (bit_or x y) z) w) ≡ doubt_of a b
unfolding doubt_of
doubt_told a b l x y z w el ex ey ez ew =
    let sl = small 0xBF a in
    let sx = small a 0xE2 in
    let sy = small 0xE2 a in
    let sz = small b 0x94 in
    let sw = small 0xAF b in
    let e = or_is x y (omega (arith, ex, sx)) (omega (arith, ey, sy)) in
    let f = or_is (max x y) z (omega (arith, ex, ey, sx, sy)) (omega (arith, ez, sz)) in
    let g = or_is (max (max x y) z) w (omega (arith, ex, ey, ez, sx, sy, sz)) (omega (arith, ew, sw)) in
    let h : max (max (max x y) z) w ≡ max (max x y) (max z w) = omega arith in
    ap (λ (n : ℕ). bit_and l (bit_or (bit_or n z) w)) e
    ∙ ap (λ (n : ℕ). bit_and l (bit_or n w)) f
    ∙ ap (bit_and l) g
    ∙ and_is l (max (max (max x y) z) w) (omega (arith, el, sl)) (omega (arith, ex, ey, ez, ew, sx, sy, sz, sw))
    ∙ ap (min l) h
    ∙ cc

-- each byte counts
pub doubt_any : (t : List ℕ) (k : ℕ) → k < length t → doubt_of (get_or t k 0) (get_or t (k + 1) 0) ≤ doubt_in t
unfolding doubt_in
doubt_any [] k h = absurd (let z : ⊥ = omega (arith, h) in z)
doubt_any (a ∷ t) zero h = omega arith
doubt_any (a ∷ t) (suc k) h =
    let z : suc k + 1 ≡ suc (k + 1) = omega arith in
    omega (arith, doubt_any t k (omega (arith, h)), ap (λ (j : ℕ). doubt_of (get_or t k 0) (get_or (a ∷ t) j 0)) z)

-- and no other
pub doubt_none : (t : List ℕ) → Clear t 0 (length t) → doubt_in t ≡ 0
unfolding doubt_in
doubt_none [] f = refl
doubt_none (a ∷ t) f =
    omega (arith, f 0 (omega arith) (omega arith), doubt_none t (λ k g h. moved k (f (suc k) (omega arith) (omega (arith, h)))))
  where
    moved : (k : ℕ) → doubt_of (get_or (a ∷ t) (suc k) 0) (get_or (a ∷ t) (suc k + 1) 0) ≡ 0 → doubt_of (get_or t k 0) (get_or t (k + 1) 0) ≡ 0
    moved k e =
        let z : suc k + 1 ≡ suc (k + 1) = omega arith in
        sym (ap (λ (j : ℕ). doubt_of (get_or t k 0) (get_or (a ∷ t) j 0)) z) ∙ e

pub looked_none : (t : List ℕ) (i : ℕ) → Looked t i i 0
looked_none t i = ((λ e k g h. absurd (let z : ⊥ = omega (arith, g, h) in z)), λ h. absurd (let z : ⊥ = omega (arith, h) in z))

-- one byte more
pub looked_more : (t : List ℕ) (i k w r x : ℕ) → k < length t → Looked t i k w → r ≡ doubt_of (get_or t k 0) (get_or t (k + 1) 0) → x ≡ max w r → Looked t i (k + 1) x
looked_more t i k w r x h f e q = (
  (λ z j g l. elim (dec_lt j k) [
    | yes b ↦ f.0 (omega (arith, z, q)) j g b
    | no nb ↦ let y : j ≡ k = omega arith in ap (λ (m : ℕ). doubt_of (get_or t m 0) (get_or t (m + 1) 0)) y ∙ omega (arith, z, q, e)
  ]),
  λ z. elim (dec_lt 0 w) [ yes b ↦ f.1 b | no nb ↦ omega (arith, z, q, e, doubt_any t k h) ],
)

-- what two blocks say that meet or overlap
pub clear_on : (t : List ℕ) (i at e : ℕ) → at ≤ i → Clear t 0 i → Clear t at e → Clear t 0 e
clear_on t i at e h f g k l m = elim (dec_lt k i) [ yes b ↦ f k l b | no nb ↦ g k (omega arith) m ]

-- and with the last byte, which has none behind it
pub clear_whole : (t : List ℕ) (e r : ℕ) → e + 1 ≡ length t → Clear t 0 e → r ≡ doubt_of (get_or t e 0) 0 → r ≤ 0 → doubt_in t ≡ 0
clear_whole t e r q f d z = doubt_none t λ k g h. elim (dec_lt k e) [ yes b ↦ f k g b | no nb ↦ last k (omega arith) ]
  where
    last : (k : ℕ) → k ≡ e → doubt_of (get_or t k 0) (get_or t (k + 1) 0) ≡ 0
    last k y =
        ap (λ (m : ℕ). doubt_of (get_or t m 0) (get_or t (m + 1) 0)) y
        ∙ ap (doubt_of (get_or t e 0)) (get_or-eq_default t 0 (let w : length t ≤ e + 1 = omega (arith, q) in w))
        ∙ sym d
        ∙ omega arith

pub doubt_last : (t : List ℕ) (e r : ℕ) → e + 1 ≡ length t → r ≡ doubt_of (get_or t e 0) 0 → 0 < r → 0 < doubt_in t
doubt_last t e r q d h =
    let w : length t ≤ e + 1 = omega (arith, q) in
    let b = ap (doubt_of (get_or t e 0)) (get_or-eq_default t 0 w) in
    let a = doubt_any t e (omega (arith, q)) in
    omega (arith, a, b, d)

pub doubt_empty : (t : List ℕ) → length t ≡ 0 → doubt_in t ≡ 0
doubt_empty t e = doubt_none t λ k g h. absurd (let z : ⊥ = omega (arith, h, e) in z)

-- ---- the answer

-- the last byte of a text that is taken apart there
last_of : (x : List ℕ) (b : ℕ) → get_or (x ++ (b ∷ [])) (length x) 0 ≡ b
last_of [] b = refl
last_of (a ∷ x) b = last_of x b

pub last_doubt : (t x : List ℕ) (b r : ℕ) → t ≡ x ++ (b ∷ []) → r ≡ doubt_of b 0 → r ≡ doubt_of (get_or t (length x) 0) 0
last_doubt t x b r e q = q ∙ ap (λ (a : ℕ). doubt_of a 0) (sym (last_of x b) ∙ ap (λ (y : List ℕ). get_or y (length x) 0) (sym e))

pub no_answer : (t : List ℕ) → 0 < doubt_in t → false ≡ eqb (doubt_in t) 0
no_answer t h = sym (ne_eqb (doubt_in t) 0 λ e. omega (arith, h, e))

pub yes_answer : (t : List ℕ) → doubt_in t ≡ 0 → true ≡ eqb (doubt_in t) 0
yes_answer t e = sym (eq-eqb (doubt_in t) 0 e)

-- the last byte leaves no doubt
module _ (t : List ℕ) (e x : ℕ) (q : e + 1 ≡ length t) (d : x ≡ doubt_of (get_or t e 0) 0) (z : x ≤ 0) where
  pub by_number : (r : ℕ) → Looked t 0 (0 + e) r → eqb r 0 ≡ eqb (doubt_in t) 0
  by_number r f =
      elim (dec_lt 0 r) [
        | yes h ↦ ne_eqb r 0 (λ y. omega (arith, h, y)) ∙ no_answer t (f.1 h)
        | no nh ↦
            let y : r ≡ 0 = omega arith in
            let o : 0 + e ≡ e = omega arith in
            eq-eqb r 0 y ∙ yes_answer t (clear_whole t e x q (subst (Clear t 0) o (f.0 y)) d z)
      ]

  pub by_test : (r : Bool) → (r ≡ true → Clear t 0 e) × (r ≡ false → 0 < doubt_in t) → r ≡ eqb (doubt_in t) 0
  by_test true f = yes_answer t (clear_whole t e x q (f.0 refl) d z)
  by_test false f = no_answer t (f.1 refl)

-- ---- ASCII

least_none : (p q : ℕ) → p ≡ 0 → min p q ≡ 0
least_none p q e = omega arith

less_not : (x y : ℕ) → y ≤ x → less x y ≡ 0
less_not x y h = omega arith

low_byte : (a b : ℕ) → a < 0xC0 → doubt_of a b ≡ 0
unfolding doubt_of
low_byte a b h = least_none (less 0xBF a) _ (less_not 0xBF a h')
  where
    h' : a ≤ 0xBF
    h' = omega (arith, h)

-- ASCII is seen as it is
pub ascii_unmarked : (t : List ℕ) → top_of t < 0x80 → marked t ≡ t
ascii_unmarked t h = undoubted t (doubt_none t λ k f g. low_byte (get_or t k 0) (get_or t (k + 1) 0) (omega (arith, top_any t k, h)))
