-- Laws of writing a number, and of counting its digits, from the last one on. Assumes nothing.
use mathlib.Core.Path.{◌≡◌, ap, sym, ◌∙◌, subst}
use mathlib.Core.List.{List, [], ◌∷◌, ◌++◌, append-nil, append_assoc}
use Prim.Native.Nat.{ℕ, zero, suc, ◌+◌, ◌-◌, ◌*◌, ◌/◌, ◌%◌, ◌^◌, ◌<◌, ◌≤◌}
use native.Mathlib.Nat.{pow-succ'}
use native.Mathlib.Numerals.{add-one}
use native.Mathlib.Omega.{arith}
use lib.ListN.{length, take, drop, set, length-append, length-drop, length-set, drop_of_length-le}
use lib.Seq.{length-take-le, set_split, drop_at, take_all}
use borrow.Author.Tests.{lt-ltb, le-ltb}
use Rattle.buffer.specs.Bytes.{part}
use Rattle.fields.specs.Texts.{digits}

-- ---- how many digits there may be

pow_step : (i : ℕ) → 10 ^ (i + 1) ≡ 10 * 10 ^ i
pow_step i = ap (λ (k : ℕ). 10 ^ k) (add-one i) ∙ pow-succ' 10 i

pub room : (i n : ℕ) → n < 10 ^ (i + 1) → 10 ≤ n → 0 < i
room zero n h g = absurd (omega arith)
room (suc i) n h g = omega arith

pub fewer : (i n : ℕ) → 0 < i → n < 10 ^ (i + 1) → n / 10 < 10 ^ (i - 1 + 1)
fewer i n h g =
    let k : i - 1 + 1 ≡ i = omega arith in
    omega (arith, pow_step i, ap (λ (m : ℕ). 10 ^ m) k)

-- ---- the digits

digits_more : (k n : ℕ) → 10 ≤ n → digits (suc k) n ≡ digits k (n / 10) ++ (0x30 + n % 10) ∷ []
unfolding digits
digits_more k n h = rw (le-ltb n 10 h, digits)

digits_one : (k n : ℕ) → n < 10 → digits (suc k) n ≡ (0x30 + n) ∷ []
unfolding digits
digits_one k n h = rw (lt-ltb n 10 h, digits)

pub digits_begin : (n : ℕ) (into : List ℕ) → length into ≤ 10 → digits 10 n ++ drop 10 into ≡ digits 10 n
digits_begin n into h = ap (λ (l : List ℕ). digits 10 n ++ l) (drop_of_length-le into h) ∙ append-nil (digits 10 n)

drop_set : (i b : ℕ) (into : List ℕ) → i < length into → drop i (set into i b) ≡ b ∷ drop (i + 1) into
drop_set i b into h =
    ap (drop i) (set_split into i b h)
    ∙ drop_at (take i into) (b ∷ drop (suc i) into) i (length-take-le i into (omega arith))
    ∙ ap (λ (k : ℕ). b ∷ drop k into) (sym (add-one i))

module _ (i n b : ℕ) (into z : List ℕ) (h : i < length into) (p : digits (i + 1) n ++ drop (i + 1) into ≡ z) where
  -- one digit more, not the first
  pub digits_turn : 0 < i → 10 ≤ n → b ≡ 0x30 + n % 10 → digits (i - 1 + 1) (n / 10) ++ drop (i - 1 + 1) (set into i b) ≡ z
  digits_turn g f e =
      let k : i - 1 + 1 ≡ i = omega arith in
      ap (λ (m : ℕ). digits m (n / 10) ++ drop m (set into i b)) k
      ∙ ap (λ (l : List ℕ). digits i (n / 10) ++ l) (drop_set i b into h ∙ ap (λ (x : ℕ). x ∷ drop (i + 1) into) e)
      ∙ sym (append_assoc (digits i (n / 10)) ((0x30 + n % 10) ∷ []) (drop (i + 1) into))
      ∙ ap (λ (l : List ℕ). l ++ drop (i + 1) into) (sym (digits_more i n f) ∙ ap (λ (m : ℕ). digits m n) (sym (add-one i)))
      ∙ p

  -- the first digit
  pub digits_end_lem : length into ≤ 10 → n < 10 → b ≡ 0x30 + n → part i 10 (set into i b) ≡ z
  digits_end_lem g f e =
      take_all (10 - i) (drop i (set into i b)) (omega (arith, length-drop i (set into i b), length-set into i b))
      ∙ drop_set i b into h
      ∙ ap (λ (x : ℕ). x ∷ drop (i + 1) into) e
      ∙ ap (λ (l : List ℕ). l ++ drop (i + 1) into) (sym (digits_one i n f) ∙ ap (λ (m : ℕ). digits m n) (sym (add-one i)))
      ∙ p
