-- Laws of a table that the code keeps as a list of words and a list of values: what is said of a word by the value at its index. Assumes nothing.
use Prim.Native.Nat.{ℕ, zero, suc, ◌<◌}
use mathlib.Core.Path.{◌≡◌, sym}
use mathlib.Core.List.{List, [], ◌∷◌, map}
use native.Mathlib.Omega.{arith}
use lib.ListN.{length, get_or}
use Rattle.std.specs.Prelude.{Some, None}
use Rattle.buffer.specs.Table.{some, Entry, lookup}
use Rattle.spelling.specs.Tables.{value_at}
use Rattle.spelling.proofs.Indexing.{FoundIn, listed, listed_below, unlisted}
use Rattle.words.specs.Within.{found}

-- what the entries say
abbrev pub values_of : {A : Type 0} → List (Entry A) → List A
values_of [] = []
values_of (e ∷ rest) = e.value ∷ values_of rest

-- it is what f makes of a list of values
value_of : {A B : Type 0} (f : B → A) (d : B) (table : List (Entry A)) (values : List B) → map f values ≡ values_of table
    → (i : ℕ) → i < length table → value_at table i ≡ some (f (get_or values i d))
value_of f d [] values q i h = absurd (let z : ⊥ = omega arith in z)
value_of f d (e ∷ table) [] q i h = cc
value_of f d (e ∷ table) (v ∷ rest) q zero h = cc
value_of f d (e ∷ table) (v ∷ rest) q (suc i) h = value_of f d table rest (let r : map f rest ≡ values_of table = cc in r) i (omega arith)

-- the word w, looked up: the table's words are those that were searched
module _ {A B : Type 0} (f : B → A) (table : List (Entry A)) (w : List ℕ) where
  pub not_found : FoundIn table w None → found f None ≡ lookup table w
  unfolding found
  not_found q = sym (unlisted table w q)

  pub value_found : (values : List B) → map f values ≡ values_of table → (i : ℕ) → FoundIn table w (Some i) → (d : B)
      → found f (Some (get_or values i d)) ≡ lookup table w
  unfolding found
  value_found values p i q d = sym (listed table w i q _ (value_of f d table values p i (listed_below table w i q)))
