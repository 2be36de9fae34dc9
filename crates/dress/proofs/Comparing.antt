-- Laws of `starts_with`, whether a text begins with another. Assumes nothing.
use lib.Pointwise.{pointwise}
use mathlib.Core.Path.{◌≡◌, refl, ap, sym, ◌∙◌}
use mathlib.Core.Bool.{Bool, true, false, ◌&&◌}
use mathlib.Core.List.{List, [], ◌∷◌, ◌++◌}
use Prim.Native.Nat.{ℕ}
use lib.Dec.{eqb}
use lib.ListN.{length, drop, take}
use borrow.Author.Tests.{eq-eqb, ne_eqb, eqb-true, eqb-false}
use Rattle.colour.specs.Sequences.{starts_with}

-- ---- as the library tells it

other_way : (a b : ℕ) → eqb a b ≡ eqb b a
other_way a b = by (eqb b a) refl
  where
    by : (c : Bool) → eqb b a ≡ c → eqb a b ≡ eqb b a
    by true e = eq-eqb a b (sym (eqb-true b a e)) ∙ sym e
    by false e = ne_eqb a b (λ h. eqb-false b a e (sym h)) ∙ sym e

pub starts_is : (x s : List ℕ) → pointwise eqb x (take (length x) s) ≡ starts_with x s
unfolding starts_with
starts_is [] s = refl
starts_is (a ∷ x) [] = refl
starts_is (a ∷ x) (b ∷ s) = ap (λ (t : Bool). t && pointwise eqb x (take (length x) s)) (other_way a b) ∙ by (eqb b a) (starts_is x s)
  where
    by : {r t : Bool} (c : Bool) → r ≡ t → (c && r) ≡ elim c as (λ _. Bool) [ true ↦ t | false ↦ false ]
    by true e = e
    by false e = refl

pub starts_told : (x s : List ℕ) (r t : Bool) → r ≡ pointwise eqb x (take (length x) s) → r ≡ t → starts_with x s ≡ t
starts_told x s r t e h = sym (starts_is x s) ∙ sym e ∙ h

-- ---- what it says of the text

both_true : (t u : Bool) → elim t [ true ↦ u | false ↦ false ] ≡ true → (t ≡ true) × (u ≡ true)
both_true true u e = (refl, e)
both_true false u e = (cc, cc)

-- a text that begins with x is x and what follows
pub starts_split : (x s : List ℕ) → starts_with x s ≡ true → s ≡ x ++ drop (length x) s
unfolding starts_with
starts_split [] s e = refl
starts_split (a ∷ x) [] e = cc
starts_split (a ∷ x) (b ∷ s) e =
    let t = both_true (eqb b a) (starts_with x s) e in
    let p : b ≡ a = eqb-true b a t.0 in
    let q : s ≡ x ++ drop (length x) s = starts_split x s t.1 in
    cc
