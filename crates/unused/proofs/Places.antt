-- Places: which of two comes first. Assumes nothing.
use Prim.Native.Nat.{ℕ, min}
use mathlib.Core.Path.{◌≡◌, refl, sym, ap, ◌∙◌}
use mathlib.Core.List.{List, [], ◌∷◌, ◌++◌}
use native.Mathlib.Omega.{arith}
use Rattle.buffer.specs.Table.{Maybe, none, some}
use Rattle.unused.specs.Unused.{Unused, place_of, sooner, first_of}

pub sooner_none : (u : Maybe ℕ) → sooner u none ≡ u
sooner_none none = refl
sooner_none (some x) = refl

both_earlier : (x y z : ℕ) → min (min x y) z ≡ min x (min y z)
both_earlier x y z = omega arith

sooner_all : (x y z : Maybe ℕ) → sooner (sooner x y) z ≡ sooner x (sooner y z)
sooner_all none y z = refl
sooner_all (some x) none z = refl
sooner_all (some x) (some y) none = refl
sooner_all (some x) (some y) (some z) = ap some (both_earlier x y z)

-- the first place of notes that follow one another
pub first_joined : (x y : List Unused) → first_of (x ++ y) ≡ sooner (first_of x) (first_of y)
first_joined [] y = refl
first_joined (u ∷ x) y = ap (sooner (some (place_of u))) (first_joined x y) ∙ sym (sooner_all (some (place_of u)) (first_of x) (first_of y))
