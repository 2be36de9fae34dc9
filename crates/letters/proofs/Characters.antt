-- `marked`, character by character: what is seen of each is letters exactly where the character is one. Assumes nothing.
use Prim.Native.Nat.{ℕ, zero, suc, ◌+◌, ◌-◌, ◌/◌, ◌≤◌, ◌<◌}
use mathlib.Core.Path.{◌≡◌, refl, ap, sym, ◌∙◌}
use mathlib.Core.Bool.{Bool, true, false, ◌&&◌}
use mathlib.Core.List.{List, [], ◌∷◌, ◌++◌, append-nil}
use native.Mathlib.Decide.{dec_lt}
use native.Mathlib.Omega.{arith}
use lib.Dec.{leb}
use lib.ListN.{length, get_or}
use borrow.Author.Tests.{lt-ltb, le-ltb, lt-leb, le-leb}
use Rattle.buffer.specs.Bytes.{character, onward}
use Rattle.utf8.specs.Utf8.{within}
use Rattle.runs.specs.Runs.{letter}
use Rattle.letters.specs.Letters.{is_alphabetic}
use Rattle.points.specs.Decoding.{size_of, point}
use Rattle.letters.specs.Marked.{opens_letter, left_in, letter_in, seen_as, marked_on, marked}
use Rattle.points.proofs.Decoded.{size_one, size_two, size_three, size_four, decoded_two, decoded_three, decoded_four}
use Rattle.letters.proofs.Ascii.{ascii, beyond}

-- ---- a character in front

-- where a character has ended it doesn't matter what it was
ended : (l : Bool) (t : List ℕ) → marked_on 0 l t ≡ marked t
unfolding marked marked_on letter_in
ended l [] = refl
ended l (b ∷ t) = refl

-- its bytes behind the first, and what follows
rest_seen : (w t : List ℕ) (l : Bool) → marked_on (length w) l (w ++ t) ≡ marked_on (length w) l w ++ marked t
unfolding marked_on letter_in left_in
rest_seen [] t l = ended l t
rest_seen (b ∷ w) t l =
    let n : suc (length w) - 1 ≡ length w = omega arith in
    rw n (ap (λ (s : List ℕ). seen_as l b ∷ s) (rest_seen w t l))

byte_seen : (w : List ℕ) (l : Bool) (k : ℕ) → k < length w → get_or (marked_on (length w) l w) k 0 ≡ seen_as l (get_or w k 0)
unfolding marked_on letter_in left_in
byte_seen [] l k h = absurd (let z : ⊥ = omega (arith, h) in z)
byte_seen (b ∷ w) l zero h = refl
byte_seen (b ∷ w) l (suc k) h =
    let n : suc (length w) - 1 ≡ length w = omega arith in
    rw n (byte_seen w l k (omega (arith, h)))

kept : (w : List ℕ) → marked_on (length w) false w ≡ w
unfolding marked_on letter_in left_in seen_as
kept [] = refl
kept (b ∷ w) =
    let n : suc (length w) - 1 ≡ length w = omega arith in
    rw n (ap (λ (s : List ℕ). b ∷ s) (kept w))

module _ (a : ℕ) (w t : List ℕ) (l : Bool) (size : size_of a ≡ suc (length w)) (told : opens_letter (a ∷ (w ++ t)) ≡ l) where
  front_seen : marked (a ∷ (w ++ t)) ≡ seen_as l a ∷ marked_on (length w) l (w ++ t)
  unfolding marked marked_on letter_in left_in
  front_seen =
      let n : size_of a - 1 ≡ length w = omega (arith, size) in
      ap (λ (x : Bool). seen_as x a ∷ marked_on (size_of a - 1) x (w ++ t)) told ∙ ap (λ (k : ℕ). seen_as l a ∷ marked_on k l (w ++ t)) n

-- ---- how a character is written

pub record Written (n a : ℕ) (w : List ℕ) : Type 0 where
  pub is : character n ≡ a ∷ w
  pub size : size_of a ≡ suc (length w)
  pub told : (t : List ℕ) → opens_letter (a ∷ (w ++ t)) ≡ (leb 0x80 n && is_alphabetic n)
  pub low : n < 0x80 → (a ≡ n) × (w ≡ [])
  pub high : 0x80 ≤ n → (k : ℕ) → k < length (a ∷ w) → (0x80 ≤ get_or (a ∷ w) k 0) × (get_or (a ∷ w) k 0 ≤ 0xF4)

opened : (a b c d : ℕ) (t : List ℕ) (n : ℕ) → 0xC0 ≤ a → 0x80 ≤ n → point a b c d ≡ n
    → (leb 0xC0 a && is_alphabetic (point a b c d)) ≡ (leb 0x80 n && is_alphabetic n)
opened a b c d t n f g e = rw (le-leb 0xC0 a f, le-leb 0x80 n g, e)

module _ (n : ℕ) where
  one : n < 0x80 → Written n n []
  unfolding opens_letter
  one h = record {
    is = rw (lt-ltb n 0x80 h, character);
    size = size_one n (omega (arith, h));
    told = λ t. rw (lt-leb 0xC0 n (omega (arith, h)), lt-leb 0x80 n h);
    low = λ _. (refl, refl);
    high = λ g. absurd (let z : ⊥ = omega (arith, g, h) in z);
  }

  two : 0x80 ≤ n → n < 0x800 → Written n (0xC0 + n / 0x40) (onward n ∷ [])
  unfolding opens_letter
  two g h = record {
    is = rw (le-ltb n 0x80 g, lt-ltb n 0x800 h, character);
    size = size_two (0xC0 + n / 0x40) (omega arith) (omega (arith, h));
    told = λ t. opened (0xC0 + n / 0x40) (onward n) (get_or t 0 0) (get_or t 1 0) t n (omega arith) g (decoded_two n (get_or t 0 0) (get_or t 1 0) g h);
    low = λ f. absurd (let z : ⊥ = omega (arith, f, g) in z);
    high = λ f. bytes;
  }
    where
      bytes : (k : ℕ) → k < 2 → (0x80 ≤ get_or ((0xC0 + n / 0x40) ∷ onward n ∷ []) k 0) × (get_or ((0xC0 + n / 0x40) ∷ onward n ∷ []) k 0 ≤ 0xF4)
      bytes zero l = (omega arith, omega (arith, h))
      bytes (suc zero) l = (omega arith, omega arith)
      bytes (suc (suc k)) l = absurd (let z : ⊥ = omega (arith, l) in z)

  three : 0x800 ≤ n → n < 0x10000 → Written n (0xE0 + n / 0x1000) (onward (n / 0x40) ∷ onward n ∷ [])
  unfolding opens_letter
  three g h = record {
    is = rw (le-ltb n 0x80 (omega (arith, g)), le-ltb n 0x800 g, lt-ltb n 0x10000 h, character);
    size = size_three (0xE0 + n / 0x1000) (omega arith) (omega (arith, h));
    told = λ t. opened (0xE0 + n / 0x1000) (onward (n / 0x40)) (onward n) (get_or t 0 0) t n (omega arith) (omega (arith, g)) (decoded_three n 0 (get_or t 0 0) g h);
    low = λ f. absurd (let z : ⊥ = omega (arith, f, g) in z);
    high = λ f. bytes;
  }
    where
      bytes : (k : ℕ) → k < 3 → (0x80 ≤ get_or ((0xE0 + n / 0x1000) ∷ onward (n / 0x40) ∷ onward n ∷ []) k 0) × (get_or ((0xE0 + n / 0x1000) ∷ onward (n / 0x40) ∷ onward n ∷ []) k 0 ≤ 0xF4)
      bytes zero l = (omega arith, omega (arith, h))
      bytes (suc zero) l = (omega arith, omega arith)
      bytes (suc (suc zero)) l = (omega arith, omega arith)
      bytes (suc (suc (suc k))) l = absurd (let z : ⊥ = omega (arith, l) in z)

  four : 0x10000 ≤ n → n < 0x110000 → Written n (0xF0 + n / 0x40000) (onward (n / 0x1000) ∷ onward (n / 0x40) ∷ onward n ∷ [])
  unfolding opens_letter
  four g h = record {
    is = rw (le-ltb n 0x80 (omega (arith, g)), le-ltb n 0x800 (omega (arith, g)), le-ltb n 0x10000 g, character);
    size = size_four (0xF0 + n / 0x40000) (omega arith);
    told = λ t. opened (0xF0 + n / 0x40000) (onward (n / 0x1000)) (onward (n / 0x40)) (onward n) t n (omega arith) (omega (arith, g)) (decoded_four n 0 0 g h);
    low = λ f. absurd (let z : ⊥ = omega (arith, f, g) in z);
    high = λ f. bytes;
  }
    where
      bytes : (k : ℕ) → k < 4 → (0x80 ≤ get_or ((0xF0 + n / 0x40000) ∷ onward (n / 0x1000) ∷ onward (n / 0x40) ∷ onward n ∷ []) k 0)
          × (get_or ((0xF0 + n / 0x40000) ∷ onward (n / 0x1000) ∷ onward (n / 0x40) ∷ onward n ∷ []) k 0 ≤ 0xF4)
      bytes zero l = (omega arith, omega (arith, h))
      bytes (suc zero) l = (omega arith, omega arith)
      bytes (suc (suc zero)) l = (omega arith, omega arith)
      bytes (suc (suc (suc zero))) l = (omega arith, omega arith)
      bytes (suc (suc (suc (suc k)))) l = absurd (let z : ⊥ = omega (arith, l) in z)

  written : n < 0x110000 → (a : ℕ) × (w : List ℕ) × Written n a w
  written h =
      elim (dec_lt n 0x80) [
        | yes f ↦ (_, _, one f)
        | no nf ↦ elim (dec_lt n 0x800) [
          | yes g ↦ (_, _, two (omega arith) g)
          | no ng ↦ elim (dec_lt n 0x10000) [ yes k ↦ (_, _, three (omega arith) k) | no nk ↦ (_, _, four (omega arith) h) ]
        ]
      ]

-- ---- every character

module _ (n a : ℕ) (w : List ℕ) (v : Written n a w) where
  abbrev l : Bool
  l = leb 0x80 n && is_alphabetic n

  alone : marked (character n) ≡ seen_as l a ∷ marked_on (length w) l w
  alone =
      let z : w ++ [] ≡ w = append-nil w in
      ap marked (v.is ∙ ap (λ (s : List ℕ). a ∷ s) (sym z))
      ∙ front_seen a w [] l v.size (v.told [])
      ∙ ap (λ (s : List ℕ). seen_as l a ∷ marked_on (length w) l s) z

  before : (t : List ℕ) → marked (character n ++ t) ≡ marked (character n) ++ marked t
  before t =
      ap (λ (c : List ℕ). marked (c ++ t)) v.is
      ∙ front_seen a w t l v.size (v.told t)
      ∙ ap (λ (s : List ℕ). seen_as l a ∷ s) (rest_seen w t l)
      ∙ ap (λ (s : List ℕ). s ++ marked t) (sym alone)

  seen_at : (k : ℕ) → k < length (a ∷ w) → get_or (marked (character n)) k 0 ≡ seen_as l (get_or (a ∷ w) k 0)
  seen_at zero h = ap (λ (s : List ℕ). get_or s 0 0) alone
  seen_at (suc k) h = ap (λ (s : List ℕ). get_or s (suc k) 0) alone ∙ byte_seen w l k (omega (arith, h))

  -- a byte of a character of several bytes is seen as a letter's exactly where it is marked
  told_by : (x : Bool) (b : ℕ) → 0x80 ≤ b → b ≤ 0xF4 → letter (seen_as x b) ≡ x
  unfolding seen_as letter within
  told_by true b f g = refl
  told_by false b f g = beyond b f g

  decides : (k : ℕ) → k < length (a ∷ w) → letter (get_or (marked (character n)) k 0) ≡ is_alphabetic n
  unfolding seen_as
  decides k h =
      elim (dec_lt n 0x80) [
        | yes f ↦
            let e = v.low f in
            let z : k ≡ 0 = omega (arith, h, ap length e.1) in
            ap letter (seen_at k h)
            ∙ ap (λ (x : Bool). letter (seen_as (x && is_alphabetic n) (get_or (a ∷ w) k 0))) (lt-leb 0x80 n f)
            ∙ ap (λ (j : ℕ). letter (get_or (a ∷ w) j 0)) z
            ∙ ap letter e.0
            ∙ ascii n f
        | no nf ↦
            let f : 0x80 ≤ n = omega arith in
            let b = v.high f k h in
            ap letter (seen_at k h)
            ∙ told_by l (get_or (a ∷ w) k 0) b.0 b.1
            ∙ ap (λ (x : Bool). x && is_alphabetic n) (le-leb 0x80 n f)
      ]

  unmarked : l ≡ false → marked (character n) ≡ character n
  unfolding seen_as
  unmarked e =
      alone
      ∙ ap (λ (x : Bool). seen_as x a ∷ marked_on (length w) x w) e
      ∙ ap (λ (s : List ℕ). a ∷ s) (kept w)
      ∙ sym v.is

neither : (x y : Bool) → y ≡ false → (x && y) ≡ false
neither true y e = e
neither false y e = refl

module _ (n : ℕ) (h : n < 0x110000) where
  -- a character is seen alike whatever follows it
  pub one_by_one : (t : List ℕ) → marked (character n ++ t) ≡ marked (character n) ++ marked t
  one_by_one t = let v = written n h in before n v.0 v.1 v.2 t

  -- and is seen as letters exactly where it is one
  pub decided : (k : ℕ) → k < length (character n) → letter (get_or (marked (character n)) k 0) ≡ is_alphabetic n
  decided k g = let v = written n h in decides n v.0 v.1 v.2 k (omega (arith, g, ap length v.2.is))

  -- what is no letter is seen as it is
  pub as_it_is : is_alphabetic n ≡ false → marked (character n) ≡ character n
  as_it_is e = let v = written n h in unmarked n v.0 v.1 v.2 (neither (leb 0x80 n) (is_alphabetic n) e)

-- and so is ASCII, letters too
pub ascii_as_it_is : (n : ℕ) → n < 0x80 → marked (character n) ≡ character n
ascii_as_it_is n h =
    let v = written n (omega (arith, h)) in
    unmarked n v.0 v.1 v.2 (ap (λ (x : Bool). x && is_alphabetic n) (lt-leb 0x80 n h))
