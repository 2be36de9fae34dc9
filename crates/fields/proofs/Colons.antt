-- Laws of `before_colons`, by the first place of `::`. Assumes nothing.
use mathlib.Core.Path.{◌≡◌, refl, ap, sym, ◌∙◌}
use mathlib.Core.Bool.{Bool, true, false}
use mathlib.Core.List.{List, [], ◌∷◌}
use Prim.Native.Nat.{ℕ, zero, suc, ◌+◌, ◌-◌, ◌≤◌}
use native.Mathlib.Omega.{arith}
use lib.Dec.{eqb}
use lib.ListN.{take, drop, get_or}
use borrow.Author.Tests.{eq-eqb, ne_eqb, eqb-true, eqb-false}
use Rattle.std.specs.Prelude.{Some, None}
use Rattle.std.proofs.lemmas.List.{take-take}
use Rattle.buffer.specs.Bytes.{bytes, part, same}
use Rattle.buffer.specs.Table.{none, some}
use Rattle.paths.specs.Paths.{after_byte, before_colons}
use Rattle.fields.specs.Worded.{ColonsAt, FirstColons}
use Rattle.paths.proofs.Pieces.{eqb_sym}

-- ---- two colons

last_colon : (t : Bool) → elim t [ true ↦ true | false ↦ false ] ≡ t
last_colon true = refl
last_colon false = refl

colon_first : (a b : ℕ) → a ≡ 0x3A → same (bytes "::") (a ∷ b ∷ []) ≡ eqb b 0x3A
unfolding same
colon_first a b h = rw (eq-eqb 0x3A a (sym h), same) (last_colon (eqb 0x3A b) ∙ eqb_sym 0x3A b)

no_colon : (a b : ℕ) → (a ≡ 0x3A → ⊥) → same (bytes "::") (a ∷ b ∷ []) ≡ false
unfolding same
no_colon a b h = rw (ne_eqb 0x3A a (λ e. h (sym e)), same)

here : (a b : ℕ) (s : List ℕ) → ColonsAt (a ∷ b ∷ s) 0 → before_colons (a ∷ (b ∷ s)) ≡ some []
unfolding before_colons
here a b s h = rw (colon_first a b h.1 ∙ eq-eqb b 0x3A h.2, before_colons)

not_here : (a b : ℕ) (s : List ℕ) (t : Bool) → eqb a 0x3A ≡ t → (ColonsAt (a ∷ b ∷ s) 0 → ⊥) → same (bytes "::") (a ∷ b ∷ []) ≡ false
not_here a b s true e h =
    let x = eqb-true a 0x3A e in
    colon_first a b x ∙ ne_eqb b 0x3A (λ y. h (omega arith, x, y))
not_here a b s false e h = no_colon a b (eqb-false a 0x3A e)

later : (a b : ℕ) (s : List ℕ) → (ColonsAt (a ∷ b ∷ s) 0 → ⊥) → before_colons (a ∷ (b ∷ s)) ≡ after_byte a (before_colons (b ∷ s))
unfolding before_colons
later a b s h = rw (not_here a b s (eqb a 0x3A) refl h, before_colons)

-- ---- one byte more before the text

module _ (a : ℕ) (t : List ℕ) (k : ℕ) where
  beyond : get_or (a ∷ t) (suc k + 1) 0 ≡ get_or t (k + 1) 0
  beyond = let e : suc k + 1 ≡ suc (k + 1) = omega arith in ap (λ (n : ℕ). get_or (a ∷ t) n 0) e

  moved_on : ColonsAt t k → ColonsAt (a ∷ t) (suc k)
  moved_on h = (omega (arith, h.0), h.1, beyond ∙ h.2)

  moved_back : ColonsAt (a ∷ t) (suc k) → ColonsAt t k
  moved_back h = (omega (arith, h.0), h.1, sym beyond ∙ h.2)

-- ---- what stands before them

pub colons_found : (s : List ℕ) (n : ℕ) → FirstColons s (Some n) → before_colons s ≡ some (take n s)
unfolding after_byte
colons_found [] n h = absurd (omega (arith, h.0.0))
colons_found (a ∷ []) n h = absurd (omega (arith, h.0.0))
colons_found (a ∷ (b ∷ s)) zero h = here a b s h.0
colons_found (a ∷ (b ∷ s)) (suc n) h =
    later a b s (h.1 0 (omega arith))
    ∙ ap (after_byte a) (colons_found (b ∷ s) n (moved_back a (b ∷ s) n h.0, λ k l c. h.1 (suc k) (omega arith) (moved_on a (b ∷ s) k c)))

pub colons_none : (s : List ℕ) → FirstColons s None → before_colons s ≡ none
unfolding before_colons after_byte
colons_none [] h = refl
colons_none (a ∷ []) h = refl
colons_none (a ∷ (b ∷ s)) h = later a b s (h 0) ∙ ap (after_byte a) (colons_none (b ∷ s) (λ k c. h (suc k) (moved_on a (b ∷ s) k c)))

-- the first n bytes of a part
pub part_front : (d : List ℕ) (i e n : ℕ) → i + n ≤ e → part i (i + n) d ≡ take n (part i e d)
part_front d i e n h =
    let k : i + n - i ≡ n = omega arith in
    ap (λ (m : ℕ). take m (drop i d)) k ∙ sym (take-take n (e - i) (drop i d) (omega arith))
