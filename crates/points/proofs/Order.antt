-- The order of a table: what one computed test says of every two ends. Assumes nothing.
use mathlib.Core.Path.{◌≡◌, refl}
use mathlib.Core.Bool.{Bool, true, false}
use mathlib.Core.List.{List, [], ◌∷◌}
use Prim.Native.Nat.{ℕ, zero, suc, ◌<◌}
use native.Mathlib.Nat.{not-suc-le-zero, le_of_suc-le-suc, lt_trans}
use lib.Dec.{ltb}
use lib.ListN.{length, get_or}
use borrow.Author.Tests.{ltb-true}
use Rattle.points.specs.Ranges.{rises_from}
use Rattle.points.specs.Searching.{Rising}

-- a list that rises: its first number, and the rest
step : (p x : ℕ) (xs : List ℕ) → rises_from p (x ∷ xs) ≡ true → (p < x) × (rises_from x xs ≡ true)
unfolding rises_from
step p x xs e =
    let s = both (ltb p x) (rises_from x xs) e in
    (ltb-true p x s.0, s.1)
  where
    both : (t u : Bool) → elim t as (λ _. Bool) [ true ↦ u | false ↦ false ] ≡ true → (t ≡ true) × (u ≡ true)
    both true u e = (refl, e)
    both false u e = (cc, cc)

above : (p : ℕ) (xs : List ℕ) → rises_from p xs ≡ true → (k : ℕ) → k < length xs → p < get_or xs k 0
above p [] e k h = absurd (not-suc-le-zero h)
above p (x ∷ xs) e zero h = (step p x xs e).0
above p (x ∷ xs) e (suc k) h = let s = step p x xs e in lt_trans s.0 (above x xs s.1 k (le_of_suc-le-suc h))

-- numbers that pass the test rise
pub rises : (p : ℕ) (xs : List ℕ) → rises_from p xs ≡ true → Rising xs
rises p [] e i j h g = absurd (not-suc-le-zero g)
rises p (x ∷ xs) e i zero h g = absurd (not-suc-le-zero h)
rises p (x ∷ xs) e zero (suc j) h g = above x xs (step p x xs e).1 j (le_of_suc-le-suc g)
rises p (x ∷ xs) e (suc i) (suc j) h g = rises x xs (step p x xs e).1 i j (le_of_suc-le-suc h) (le_of_suc-le-suc g)
