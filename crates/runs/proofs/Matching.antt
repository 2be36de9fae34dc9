-- Laws of parts of a template and of words that are the same. Assumes nothing.
use Prim.Native.Nat.{ℕ, suc, ◌+◌, ◌-◌, ◌≤◌, ◌<◌}
use mathlib.Core.Path.{◌≡◌, refl, sym, ap, ◌∙◌}
use mathlib.Core.Bool.{Bool, true, false}
use mathlib.Core.List.{List, [], ◌∷◌}
use native.Mathlib.Omega.{arith}
use lib.Dec.{eqb}
use lib.ListN.{length, get_or, take, drop, replicate}
use borrow.Author.Tests.{eq-eqb, ne_eqb}
use Rattle.buffer.specs.Bytes.{part, same}
use Rattle.buffer.proofs.Parts.{part_step}

-- ---- parts of a template

pub part_none : (t : List ℕ) (i e : ℕ) → e ≤ i → part i e t ≡ []
part_none t i e h = let q : e - i ≡ 0 = omega arith in ap (λ (n : ℕ). take n (drop i t)) q

-- the byte at i + k and the part after it
pub part_on : (t : List ℕ) (i k e : ℕ) → i + k < e → e ≤ length t → part (i + k) e t ≡ get_or t (i + k) 0 ∷ part (i + (k + 1)) e t
part_on t i k e h g =
    part_step t (i + k) e h g
    ∙ ap (λ (j : ℕ). get_or t (i + k) 0 ∷ part j e t) (let q : i + k + 1 ≡ i + (k + 1) = omega arith in q)

-- ---- two words

dead : (p q : Bool) → q ≡ false → elim p [ true ↦ q | false ↦ false ] ≡ false
dead true q h = h
dead false q h = refl

pub same_lengths : (x y : List ℕ) → (length x ≡ length y → ⊥) → same x y ≡ false
unfolding same
same_lengths [] [] h = absurd (h refl)
same_lengths [] (b ∷ y) h = refl
same_lengths (a ∷ x) [] h = refl
same_lengths (a ∷ x) (b ∷ y) h = dead (eqb a b) (same x y) (same_lengths x y (λ q. h (ap suc q)))

-- ---- one byte b repeated

module _ (b : ℕ) (t : List ℕ) (i e : ℕ) where
  left : i < e → e - i ≡ suc (e - (i + 1))
  left h = omega arith

  pub repeat_on : i < e → e ≤ length t → get_or t i 0 ≡ b
      → same (replicate (e - i) b) (part i e t) ≡ same (replicate (e - (i + 1)) b) (part (i + 1) e t)
  unfolding same
  repeat_on h g q =
      ap (λ (n : ℕ). same (replicate n b) (part i e t)) (left h)
      ∙ ap (same (b ∷ replicate (e - (i + 1)) b)) (part_step t i e h g)
      ∙ rw (eq-eqb b (get_or t i 0) (sym q), same)

  pub repeat_off : i < e → e ≤ length t → (get_or t i 0 ≡ b → ⊥) → same (replicate (e - i) b) (part i e t) ≡ false
  unfolding same
  repeat_off h g q =
      ap (λ (n : ℕ). same (replicate n b) (part i e t)) (left h)
      ∙ ap (same (b ∷ replicate (e - (i + 1)) b)) (part_step t i e h g)
      ∙ rw (ne_eqb b (get_or t i 0) (λ r. q (sym r)), same)

  pub repeat_end : e ≤ i → same (replicate (e - i) b) (part i e t) ≡ true
  unfolding same
  repeat_end h =
      ap (λ (n : ℕ). same (replicate n b) (part i e t)) (let q : e - i ≡ 0 = omega arith in q)
      ∙ ap (same []) (part_none t i e h)
