-- Scaffolding, for proofs alone: a quick look that tells of most templates that they have nothing to mark. Assumes nothing.
use Rattle.std.specs.Prelude.{ℕ, min, max, ◌+◌, ◌≤◌, ◌<◌, ◌≡◌, List, [], ◌∷◌, get_or}
use Rattle.utf8.specs.Windows.{less}

-- 1 where the byte a, with b behind it, begins a character of several bytes, unless it is one from U+2500 up to U+2BFF: drawings and signs
unfoldable pub doubt_of : ℕ → ℕ → ℕ
doubt_of a b = min (less 0xBF a) (max (max (less a 0xE2) (less 0xE2 a)) (max (less b 0x94) (less 0xAF b)))

-- 1 where a byte of t leaves a doubt
unfoldable pub doubt_in : List ℕ → ℕ
doubt_in [] = 0
doubt_in (a ∷ t) = max (doubt_of a (get_or t 0 0)) (doubt_in t)

-- no byte from i up to e leaves a doubt
abbrev pub Clear : List ℕ → ℕ → ℕ → Type 0
Clear t i e = (k : ℕ) → i ≤ k → k < e → doubt_of (get_or t k 0) (get_or t (k + 1) 0) ≡ 0

-- 0 says that no byte from i up to e leaves a doubt, any other number that one does
abbrev pub Looked : List ℕ → ℕ → ℕ → ℕ → Type 0
Looked t i e r = (r ≡ 0 → Clear t i e) × (0 < r → 0 < doubt_in t)
