-- Texts that may be missing and lists of texts, without byte 27. Assumes nothing.
use Prim.Native.Nat.{ℕ, zero, suc}
use mathlib.Core.List.{List, [], ◌∷◌, ◌++◌}
use lib.ListN.{take, drop}
use Rattle.buffer.specs.Table.{Maybe, none, some}
use Rattle.colour.specs.Texts.{Free}

abbrev pub FreeMaybe : Maybe (List ℕ) → Type 0
FreeMaybe none = Unit {0}
FreeMaybe (some t) = Free t

abbrev pub Frees : List (List ℕ) → Type 0
Frees [] = Unit {0}
Frees (x ∷ rest) = Free x × Frees rest

pub frees_append : (x y : List (List ℕ)) → Frees x → Frees y → Frees (x ++ y)
frees_append [] y f g = g
frees_append (a ∷ x) y f g = (f.0, frees_append x y f.1 g)

pub frees_drop : (n : ℕ) (x : List (List ℕ)) → Frees x → Frees (drop n x)
frees_drop zero x f = f
frees_drop (suc n) [] f = tt
frees_drop (suc n) (a ∷ x) f = frees_drop n x f.1

pub frees_take : (n : ℕ) (x : List (List ℕ)) → Frees x → Frees (take n x)
frees_take zero x f = tt
frees_take (suc n) [] f = tt
frees_take (suc n) (a ∷ x) f = (f.0, frees_take n x f.1)
