-- The first place of all that is left unused: one of it stands there, and none before. Assumes nothing.
use Prim.Native.Nat.{ℕ, ◌≤◌, min}
use mathlib.Core.Path.{◌≡◌, refl, sym, ap, subst}
use mathlib.Core.Bool.{Bool, true, false}
use mathlib.Core.List.{List, [], ◌∷◌}
use mathlib.Core.Logic.{inl, inr}
use native.Mathlib.Omega.{arith}
use lib.Dec.{leb}
use borrow.Author.Tests.{leb-true, leb-false}
use Rattle.buffer.specs.Table.{Maybe, none, some}
use Rattle.unused.specs.Unused.{Unused, place_of, sooner, first_of}
use Rattle.demands.specs.Conditions.{OneAt, NoneBefore}

-- what the first place says of all
abbrev Says : List Unused → Maybe ℕ → Type 0
Says x none = x ≡ []
Says x (some p) = OneAt p x × NoneBefore p x

earlier : (p q : ℕ) → p ≤ q → (x : List Unused) → NoneBefore q x → NoneBefore p x
earlier p q h [] n = tt
earlier p q h (u ∷ x) n = (omega (arith, n.0), earlier p q h x n.1)

module _ (u : Unused) (x : List Unused) where
  alone : x ≡ [] → OneAt (place_of u) (u ∷ x) × NoneBefore (place_of u) (u ∷ x)
  alone e = (inl refl, (omega arith, subst (NoneBefore (place_of u)) (sym e) tt))

  both : (q : ℕ) → OneAt q x × NoneBefore q x → (b : Bool) → leb (place_of u) q ≡ b → OneAt (min (place_of u) q) (u ∷ x) × NoneBefore (min (place_of u) q) (u ∷ x)
  both q w true e =
      let h = leb-true (place_of u) q e in
      let m : place_of u ≡ min (place_of u) q = omega arith in
      subst (λ (p : ℕ). OneAt p (u ∷ x) × NoneBefore p (u ∷ x)) m (inl refl, (omega arith, earlier (place_of u) q h x w.1))
  both q w false e =
      let h = leb-false (place_of u) q e in
      let m : q ≡ min (place_of u) q = omega arith in
      subst (λ (p : ℕ). OneAt p (u ∷ x) × NoneBefore p (u ∷ x)) m (inr w.0, (omega arith, w.1))

  one_more : (m : Maybe ℕ) → Says x m → Says (u ∷ x) (sooner (some (place_of u)) m)
  one_more none w = alone w
  one_more (some q) w = both q w (leb (place_of u) q) refl

says : (x : List Unused) → Says x (first_of x)
says [] = refl
says (u ∷ x) = one_more u x (first_of x) (says x)

pub nothing_unused : (x : List Unused) → first_of x ≡ none → x ≡ []
nothing_unused x e = subst (Says x) e (says x)

pub first_says : (x : List Unused) (p : ℕ) → first_of x ≡ some p → OneAt p x × NoneBefore p x
first_says x p e = subst (Says x) e (says x)

pub used_first : (x : List Unused) → x ≡ [] → first_of x ≡ none
used_first x e = ap first_of e

at_most : (p q : ℕ) (x : List Unused) → OneAt p x → NoneBefore q x → q ≤ p
at_most p q [] o n = absurd o
at_most p q (u ∷ x) (inl e) n = omega (arith, n.0)
at_most p q (u ∷ x) (inr o) n = at_most p q x o n.1

-- and there is one such place only
pub first_is : (x : List Unused) (p : ℕ) → OneAt p x × NoneBefore p x → first_of x ≡ some p
first_is x p w = by (first_of x) (says x)
  where
    by : (m : Maybe ℕ) → Says x m → m ≡ some p
    by none e = absurd (subst (OneAt p) e w.0)
    by (some q) v =
        let a = at_most p q x w.0 v.1 in
        let b = at_most q p x v.0 w.1 in
        ap some (let z : q ≡ p = omega arith in z)
