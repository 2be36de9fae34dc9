-- Laws of `chars`, the number of characters, and of `has`, whether a byte is in a text. Assumes nothing.
use mathlib.Core.Path.{◌≡◌, refl, ap, sym, ◌∙◌}
use mathlib.Core.Bool.{Bool, true, false, cond, ◌||◌}
use mathlib.Core.List.{List, [], ◌∷◌, ◌++◌}
use Prim.Native.Nat.{ℕ, zero, suc, ◌+◌, ◌/◌, ◌<◌, ◌≤◌}
use native.Mathlib.Decide.{dec_lt, ℕ_discrete as dec_eq}
use native.Mathlib.Omega.{arith}
use lib.Dec.{eqb}
use lib.ListN.{length, drop, get_or, replicate, drop_of_length-le}
use Rattle.utf8.specs.Utf8.{within, trail}
use Rattle.utf8.specs.Windows.{alike}
use Rattle.characters.specs.Characters.{begins, chars, has}
use Rattle.buffer.proofs.Parts.{drop_step}
use Rattle.utf8.proofs.Ranges.{within_in, within_below, within_above}

one_at_most : (t : Bool) → elim t [ true ↦ 0 | false ↦ 1 ] ≤ 1
one_at_most true = omega arith
one_at_most false = omega arith

-- a byte below the trailing ones begins a character
pub begins_below : (b : ℕ) → b < 0x80 → begins b ≡ 1
unfolding begins
begins_below b h = rw (within_below 0x80 0xBF b h, begins)

-- and so does one above them
pub begins_above : (b : ℕ) → 0xBF < b → begins b ≡ 1
unfolding begins
begins_above b h = rw (within_above 0x80 0xBF b h, begins)

-- a trailing byte does not
pub begins_trail : (b : ℕ) → 0x80 ≤ b → b ≤ 0xBF → begins b ≡ 0
unfolding begins
begins_trail b l h = rw (within_in 0x80 0xBF b l h, begins)

pub chars_append : (s t : List ℕ) → chars (s ++ t) ≡ chars s + chars t
chars_append [] t = omega arith
chars_append (b ∷ s) t = omega (arith, chars_append s t)

-- each copy of a byte below 0x80 is a character
pub chars_replicate : (n b : ℕ) → b < 0x80 → chars (replicate n b) ≡ n
chars_replicate zero b h = refl
chars_replicate (suc n) b h = omega (arith, begins_below b h, chars_replicate n b h)

-- a byte begins one character at most
pub begins_most : (b : ℕ) → begins b ≤ 1
unfolding begins
begins_most b = one_at_most (within trail b)

-- a text has no more characters than bytes
pub chars_length : (s : List ℕ) → chars s ≤ length s
chars_length [] = omega arith
chars_length (b ∷ s) = omega (arith, begins_most b, chars_length s)

-- one byte on
pub chars_step : (s : List ℕ) (i : ℕ) → i < length s → chars (drop i s) ≡ begins (get_or s i 0) + chars (drop (i + 1) s)
chars_step s i h = ap chars (drop_step s i h)

pub chars_end : (s : List ℕ) (i : ℕ) → length s ≤ i → chars (drop i s) ≡ 0
chars_end s i h = ap chars (drop_of_length-le s h)

-- b is the byte there, or comes after it
pub has_step : (b : ℕ) (s : List ℕ) (i : ℕ) → i < length s → has b (drop i s) ≡ cond (eqb (get_or s i 0) b) true (has b (drop (i + 1) s))
has_step b s i h = ap (has b) (drop_step s i h)

has_end : (b : ℕ) (s : List ℕ) (i : ℕ) → length s ≤ i → has b (drop i s) ≡ false
has_end b s i h = ap (has b) (drop_of_length-le s h)

-- met before, at a byte or after it
pub met_on : (m e h : Bool) → cond (m || e) true h ≡ cond m true (cond e true h)
met_on true e h = refl
met_on false e h = refl

met_last : (m : Bool) → cond m true false ≡ m
met_last true = refl
met_last false = refl

-- nothing is still to come at the end
pub met_all : (b : ℕ) (s : List ℕ) (i : ℕ) (m before : Bool) → length s ≤ i → cond m true (has b (drop i s)) ≡ before → m ≡ before
met_all b s i m before h f = sym (met_last m) ∙ ap (cond m true) (sym (has_end b s i h)) ∙ f

-- the same of a round x, and what comes behind it
has_append : (b : ℕ) (x rest : List ℕ) → has b (x ++ rest) ≡ cond (has b x) true (has b rest)
has_append b [] rest = refl
has_append b (y ∷ x) rest = by (eqb y b) (has_append b x rest)
  where
    by : (e : Bool) → has b (x ++ rest) ≡ cond (has b x) true (has b rest) → cond e true (has b (x ++ rest)) ≡ cond (cond e true (has b x)) true (has b rest)
    by true q = refl
    by false q = q

pub met_round : (b : ℕ) (s x rest : List ℕ) (m t : Bool) → s ≡ x ++ rest → t ≡ cond m true (has b x) → cond t true (has b rest) ≡ cond m true (has b s)
met_round b s x rest m t e q = ap (λ (u : Bool). cond u true (has b rest)) q ∙ by m ∙ ap (λ (y : List ℕ). cond m true (has b y)) (sym e)
  where
    by : (m : Bool) → cond (cond m true (has b x)) true (has b rest) ≡ cond m true (has b (x ++ rest))
    by true = refl
    by false = sym (has_append b x rest)

-- ---- a trailing byte is one whose 64th part is 2

outside : (b : ℕ) → (b / 0x40 ≡ 2 → ⊥) → begins b ≡ 1
outside b ne = elim (dec_lt b 0x80) [ yes h ↦ begins_below b h | no n ↦ begins_above b (omega arith) ]

pub begins_or_not : (b : ℕ) → alike (b / 0x40) 2 + begins b ≡ 1
begins_or_not b = elim (dec_eq (b / 0x40) 2) [ yes e ↦ omega (arith, begins_trail b (omega arith) (omega arith)) | no n ↦ omega (arith, outside b n) ]
