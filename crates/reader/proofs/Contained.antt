-- Contents and braces, one law for each case. Assumes nothing.
use Prim.Native.Nat.{ℕ, zero, suc, ◌+◌, ◌-◌, ◌≤◌}
use mathlib.Core.Path.{◌≡◌, refl, sym, ap, subst, ◌∙◌}
use mathlib.Core.Bool.{Bool, true, false, not}
use mathlib.Core.List.{List}
use native.Mathlib.Omega.{arith}
use native.Mathlib.Nat.{le_trans}
use lib.ListN.{length, take}
use Rattle.std.specs.Prelude.{None, Ok}
use Rattle.words.specs.Within.{told, Fitting}
use Rattle.runs.specs.Runs.{stands}
use Rattle.words.specs.Trying.{Tried, fit, ◌then◌, listed}
use Rattle.segments.specs.declared.Cell.{Cell}
use Rattle.segments.specs.Sizes.{Narrow}
use Rattle.parts.specs.declared.Parts.{Parts}
use Rattle.parts.specs.Parts.{no_parts}
use Rattle.building.specs.declared.Inner.{Inner}
use Rattle.building.specs.declared.Items.{Items}
use Rattle.braces.specs.Braces.{closing}
use Rattle.building.specs.Reading.{Made, Reader, nothing, Content, no_content, item_at, separator, content_at, group_at, brace_to, brace_at, inside_at}
use Rattle.building.proofs.Bounds.{fitted_moved}
use Rattle.words.proofs.Answers.{fitting_on}
use Rattle.building.specs.Told.{Read, tell, tell_inner, tell_items, built_of, Room, Fitted, Keeps, InnerKeeps, InnerMade, ItemsKeep}

-- ---- braces

pub brace_is : (t : List ℕ) (inside : Reader) (i e n : ℕ) → true ≡ stands 0x7B t i e
    → brace_at t inside i e n ≡ brace_to inside i n (closing t (e - (i + 1)) (i + 1) 0 false)
unfolding brace_at
brace_is t inside i e n b = rw (sym b, brace_at)

-- ---- a brace that is read only where one stands

-- what is known after the look, whether one was read or none stood
pub record Looked (t : List ℕ) (inside : Reader) (i e n link d : ℕ) (b a : List Cell) (o : Read ℕ) : Type 0 where
  pub told : tell o a ≡ brace_at t inside i e n
  pub keeps : Keeps (i + 1) e n link d b a o
  pub long : length a ≡ length b

module _ (t : List ℕ) (inside : Reader) (i e n link d : ℕ) (b a : List Cell) (o : Read ℕ) where
  pub brace_read : (z : List Cell) (r : Read ℕ) → a ≡ z → o ≡ r → tell r z ≡ brace_at t inside i e n → Keeps (i + 1) e n link d b z r → length z ≡ length b
      → Looked t inside i e n link d b a o
  brace_read z r p q w k l =
      subst (λ (y : List Cell). Looked t inside i e n link d b y o) (sym p)
      (subst (Looked t inside i e n link d b z) (sym q) (record { told = w; keeps = k; long = l }))

  pub no_brace : a ≡ b → o ≡ Ok None → stands 0x7B t i e ≡ false → Looked t inside i e n link d b a o
  unfolding Fitting told brace_at
  no_brace p q s = brace_read b (Ok None) p q (sym (rw (s, brace_at))) (record { front = refl; within = tt }) refl

-- ---- contents

deeper : (left : ℕ) (even : Bool) (t : List ℕ) (i e n : ℕ) → (left ≡ 0 → ⊥) → inside_at left even t i e n ≡ content_at even t (group_at t (brace_at t (inside_at (left - 1) (not even) t))) i e n
unfolding inside_at
deeper zero even t i e n h = absurd (h refl)
deeper (suc d) even t i e n h =
    ap (λ (m : ℕ). content_at even t (group_at t (brace_at t (inside_at m (not even) t))) i e n) (let q : d ≡ suc d - 1 = omega arith in q)

pub content_begins : (n : ℕ) (p : Parts) (cells : List Cell) → p ≡ no_parts → tell_items (record { parts = p; inner = Inner.Nothing; made = n }) cells ≡ no_content n
unfolding tell_items tell_inner no_content
content_begins n p cells q = ap (λ (z : Parts). record { parts = z; taken = nothing; made = n }) q

pub begins_items : (n link d : ℕ) (p : Parts) (cells : List Cell) → p ≡ no_parts → Room cells n link → ItemsKeep n link d cells (record { parts = p; inner = Inner.Nothing; made = n })
unfolding InnerKeeps InnerMade
begins_items n link d p cells q h = record {
  ready = record { narrow = subst (λ (z : Parts). Narrow z.format.width) (sym q) tt; taken = tt };
  least = (let l : n ≤ n = omega arith in l);
  few = h.few;
  sound = h.sound;
  inner = refl;
}

pub content_is : (left : ℕ) (even : Bool) (t : List ℕ) (i e n : ℕ) → (left ≡ 0 → ⊥) → (s : Content) → s ≡ no_content n
    → inside_at left even t i e n ≡ (listed (separator even) t e (item_at even t (group_at t (brace_at t (inside_at (left - 1) (not even) t))) e) i s then built_of)
unfolding content_at built_of
content_is left even t i e n h s b =
    deeper left even t i e n h
    ∙ sym (ap (λ (z : Content). listed (separator even) t e (item_at even t (group_at t (brace_at t (inside_at (left - 1) (not even) t))) e) i z then built_of) b)

-- ---- what follows the first item

pub built_last : (c : Items) (cells : List Cell) (j : ℕ) (x : Tried Content) → fit (tell_items c cells) j ≡ x → (y : Tried Made) → y ≡ built_of (tell_items c cells) j → y ≡ (x then built_of)
unfolding ◌then◌
built_last c cells j x q y r = r ∙ ap (λ (z : Tried Content). z then built_of) q

pub stood : (b d : ℕ) → b ≡ d → (t : List ℕ) (i e : ℕ) (r x : Bool) → r ≡ stands b t i e → r ≡ x → stands d t i e ≡ x
stood b d q t i e r x h g = ap (λ (z : ℕ). stands z t i e) (sym q) ∙ sym h ∙ g

-- what follows ends where the whole does, so that the whole is kept as it is
pub kept_on : (lo' lo to n link d' d : ℕ) (z b a : List Cell) (o : Read ℕ) → lo' ≤ lo → d ≡ d' → take n b ≡ take n z → Keeps lo to n link d b a o → Keeps lo' to n link d' z a o
kept_on lo' lo to n link d' d z b a o g q f h = record {
  front = h.front ∙ f;
  within = fitting_on _ _ o
      (λ j k p. subst (λ (x : ℕ). Fitted lo' to n link x a j k) q (fitted_moved _ _ _ _ _ _ _ _ p lo' to j (le_trans g p.from) p.end)) h.within;
}
