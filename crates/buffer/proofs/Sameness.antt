-- Laws of `same`, whether two lists of bytes are the same. Assumes nothing.
use mathlib.Core.Path.{◌≡◌, refl, ap, sym, ◌∙◌}
use mathlib.Core.Bool.{Bool, true, false, ◌&&◌}
use mathlib.Core.List.{List, [], ◌∷◌}
use Prim.Native.Nat.{ℕ}
use lib.Dec.{eqb}
use borrow.Author.Tests.{eq-eqb, eqb-true}
use Rattle.buffer.specs.Bytes.{same}

pub same_refl : (x : List ℕ) → same x x ≡ true
unfolding same
same_refl [] = refl
same_refl (a ∷ x) = rw (eq-eqb a a refl, same) (same_refl x)

-- two tests that hold together
pub both_true : (t u : Bool) → (t && u) ≡ true → (t ≡ true) × (u ≡ true)
both_true true u e = (refl, e)
both_true false u e = (cc, cc)

-- and where the second is made only after the first
both_in_turn : (t u : Bool) → elim t [ true ↦ u | false ↦ false ] ≡ true → (t ≡ true) × (u ≡ true)
both_in_turn true u e = (refl, e)
both_in_turn false u e = (cc, cc)

pub same→≡ : (x y : List ℕ) → same x y ≡ true → x ≡ y
unfolding same
same→≡ [] [] e = refl
same→≡ [] (b ∷ y) e = cc
same→≡ (a ∷ x) [] e = cc
same→≡ (a ∷ x) (b ∷ y) e =
    let t = both_in_turn (eqb a b) (same x y) e in
    let p : a ≡ b = eqb-true a b t.0 in
    let q : x ≡ y = same→≡ x y t.1 in
    cc

pub ≡→same : (x y : List ℕ) → x ≡ y → same x y ≡ true
≡→same x y e = ap (same x) (sym e) ∙ same_refl x
