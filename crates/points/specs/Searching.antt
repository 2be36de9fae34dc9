-- Scaffolding, for proofs alone: what the search in the table of ends finds. Assumes nothing.
use Rattle.std.specs.Prelude.{ℕ, ◌%◌, ◌≤◌, ◌<◌, Bool, List, eqb, length, get_or}

-- each number is above every one before it
abbrev pub Rising : List ℕ → Type 0
Rising xs = (p q : ℕ) → p < q → q < length xs → get_or xs p 0 < get_or xs q 0

-- the first r of the numbers are x or less, and no other is
pub record UpTo (xs : List ℕ) (x r : ℕ) : Type 0 where
  pub few : r ≤ length xs
  pub below : (k : ℕ) → k < r → get_or xs k 0 ≤ x
  pub above : (k : ℕ) → r ≤ k → k < length xs → x < get_or xs k 0

-- whether n is odd
abbrev pub odd : ℕ → Bool
odd n = eqb (n % 2) 1
