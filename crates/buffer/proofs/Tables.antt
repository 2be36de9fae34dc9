-- Laws of tables of words. Assumes nothing.
use Prim.Native.Nat.{ℕ}
use mathlib.Core.Path.{◌≡◌, refl}
use mathlib.Core.Bool.{true, false}
use mathlib.Core.List.{List, [], ◌∷◌}
use Rattle.buffer.specs.Bytes.{same}
use Rattle.buffer.specs.Table.{none, some, Entry, lookup}

module _ {A : Type 0} (x : Entry A) (rest : List (Entry A)) (w : List ℕ) where
  pub lookup_here : same x.word w ≡ true → lookup (x ∷ rest) w ≡ some x.value
  unfolding lookup
  lookup_here q = rw (q, lookup)

  pub lookup_on : same x.word w ≡ false → lookup (x ∷ rest) w ≡ lookup rest w
  unfolding lookup
  lookup_on q = rw (q, lookup)

pub lookup_none : {A : Type 0} (w : List ℕ) → lookup {A = A} [] w ≡ none
unfolding lookup
lookup_none w = refl
