-- Where the numbers of a rising list that are x or less are parted from the others. Assumes nothing.
use mathlib.Core.Path.{◌≡◌, ap}
use mathlib.Core.Bool.{true, false}
use mathlib.Core.List.{List}
use mathlib.Core.Logic.{◌⊎◌, inl, inr}
use Prim.Native.Nat.{ℕ, ◌+◌, ◌≤◌, ◌<◌, zero-le}
use native.Mathlib.Nat.{not-suc-le-zero, le_trans, le_of_lt, lt_of_lt_of_le, eq-or-lt_of_le, le_of_eq}
use native.Mathlib.Omega.{arith}
use lib.Dec.{leb}
use borrow.Author.Tests.{leb-true, leb-false}
use Rattle.std.specs.List.Sorted.{IsNonDecreasingBy, IsPartitionPoint}
use Rattle.std.proofs.lemmas.List.Sorted.{IsNonDecreasingBy-from_default}
use lib.ListN.{length, get_or}
use Rattle.points.specs.Searching.{Rising, UpTo}

-- numbers that rise do not fall from one place to a later one
no_fall : (xs : List ℕ) → Rising xs → (i j : ℕ) → i ≤ j → j < length xs → get_or xs i 0 ≤ get_or xs j 0
no_fall xs rising i j h g = go (eq-or-lt_of_le h)
  where
    go : (i ≡ j) ⊎ (i < j) → get_or xs i 0 ≤ get_or xs j 0
    go (inl e) = le_of_eq (ap (λ (n : ℕ). get_or xs n 0) e)
    go (inr l) = le_of_lt (rising i j l g)

pub never_falls : (xs : List ℕ) → Rising xs → IsNonDecreasingBy (λ y. y) xs
never_falls xs rising = IsNonDecreasingBy-from_default (λ y. y) xs 0 (no_fall xs rising)

-- where the library's `partition_point` parts those that are x or less from the others
pub parted : (xs : List ℕ) (x r : ℕ) → r ≤ length xs → IsPartitionPoint (λ y. leb y x ≡ true) (λ y. leb y x ≡ false) xs r → UpTo xs x r
parted xs x r h p = record {
  few = h;
  below = λ k g. leb-true (get_or xs k 0) x (p.0 k 0 zero-le g);
  above = λ k g l. leb-false (get_or xs k 0) x (p.1 k 0 g l);
}

-- a number between two neighbours
pub up_to_next : (xs : List ℕ) (x k : ℕ) → Rising xs → k + 1 < length xs → get_or xs k 0 ≤ x → x < get_or xs (k + 1) 0 → UpTo xs x (k + 1)
up_to_next xs x k rising h f g = record {
  few = omega (arith, h);
  below = λ j l. le_trans (no_fall xs rising j k (omega (arith, l)) (omega (arith, h))) f;
  above = λ j l m. lt_of_lt_of_le g (no_fall xs rising (k + 1) j l m);
}

-- and one before the first
pub up_to_none : (xs : List ℕ) (x : ℕ) → Rising xs → x < get_or xs 0 0 → UpTo xs x 0
up_to_none xs x rising h = record {
  few = zero-le;
  below = λ k g. absurd (not-suc-le-zero g);
  above = λ k g l. lt_of_lt_of_le h (no_fall xs rising 0 k zero-le l);
}
