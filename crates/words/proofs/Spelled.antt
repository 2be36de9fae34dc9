-- What a table says of a word by the word's length and bytes, which are what the arms of a `match` on byte strings know. Assumes nothing.
use Prim.Native.Nat.{ℕ, suc}
use mathlib.Core.Path.{◌≡◌, refl, sym, subst}
use mathlib.Core.Bool.{Bool, true, false}
use mathlib.Core.List.{List, [], ◌∷◌}
use mathlib.Core.Logic.{◌⊎◌, inl, inr}
use lib.ListN.{length}
use borrow.Author.Tests.{eqb-true}
use lib.Dec.{eqb}
use Rattle.std.proofs.lemmas.Slice.Eq.{HasBytesAt}
use Rattle.buffer.specs.Bytes.{same}
use Rattle.buffer.specs.Table.{Maybe, none, some, Entry, lookup}
use Rattle.words.specs.declared.Parameter.{Parameter}
use Rattle.words.specs.Words.{either, level_colours, styles}

-- w has the length and the bytes of p
abbrev pub Spelt : List ℕ → List ℕ → Type 0
Spelt p w = (length w ≡ length p) × HasBytesAt w 0 p

further_on : (x : ℕ) (w : List ℕ) (i : ℕ) (p : List ℕ) → HasBytesAt w i p → HasBytesAt (x ∷ w) (suc i) p
further_on x w i [] h = tt
further_on x w i (c ∷ p) h = (h.0, further_on x w (suc i) p h.1)

own_bytes : (w : List ℕ) → HasBytesAt w 0 w
own_bytes [] = tt
own_bytes (x ∷ w) = (refl, further_on x w 0 w (own_bytes w))

same_is : (p w : List ℕ) → same p w ≡ true → w ≡ p
unfolding same
same_is [] [] q = refl
same_is [] (b ∷ w) q = cc
same_is (a ∷ p) [] q = cc
same_is (a ∷ p) (b ∷ w) q = by_first (eqb a b) refl q (same_is p w)
  where
    by_first : (t : Bool) → eqb a b ≡ t → elim t [ true ↦ same p w | false ↦ false ] ≡ true → (same p w ≡ true → w ≡ p) → b ∷ w ≡ a ∷ p
    by_first true e h next = let k = eqb-true a b e in let r = next h in cc
    by_first false e h next = cc

-- o is what some line says, whose word w is, or else y
abbrev pub Told : {A : Type 0} → List (Entry A) → List ℕ → Maybe A → Maybe A → Type 0
Told [] w y o = o ≡ y
Told (e ∷ rest) w y o = ((o ≡ some e.value) × Spelt e.word w) ⊎ Told rest w y o

told_by : {A : Type 0} (table : List (Entry A)) (w : List ℕ) (y : Maybe A) → Told table w y (either (lookup table w) y)
unfolding lookup either
told_by [] w y = refl
told_by (e ∷ rest) w y = by_word (same e.word w) refl (told_by rest w y)
  where
    by_word : (b : Bool) → same e.word w ≡ b → Told rest w y (either (lookup rest w) y)
        → Told (e ∷ rest) w y (either (elim b [ true ↦ some e.value | false ↦ lookup rest w ]) y)
    by_word true q h = inl (refl, subst (Spelt e.word) (sym (same_is e.word w q)) (refl, own_bytes e.word))
    by_word false q h = inr h

or_none : {A : Type 0} (x : Maybe A) → either x none ≡ x
unfolding either
or_none none = refl
or_none (some a) = refl

pub styles_tell : (w : List ℕ) → Told styles w none (lookup styles w)
styles_tell w = subst (Told styles w none) (or_none (lookup styles w)) (told_by styles w none)

pub levels_tell : (w : List ℕ) (y : Maybe Parameter) → Told level_colours w y (either (lookup level_colours w) y)
levels_tell w y = told_by level_colours w y
