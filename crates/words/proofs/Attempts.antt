-- Laws of attempts and of the ways to put them together, one for each case. Assumes nothing.
use Prim.Native.Nat.{ℕ, zero, suc, ◌+◌, ◌-◌, ◌≤◌, ◌<◌}
use mathlib.Core.Path.{◌≡◌, sym, ap, ◌∙◌}
use mathlib.Core.Bool.{true, false}
use mathlib.Core.List.{List}
use native.Mathlib.Omega.{arith}
use Rattle.refusals.specs.declared.Refusal.{Refusal}
use Rattle.runs.specs.Runs.{stands}
use Rattle.words.specs.Trying.{Tried, fit, misfit, refused, ◌or_else◌, ◌then◌, while_it_fits, repeated, further, listed}
use Rattle.runs.proofs.Running.{stands_before}

-- ---- one attempt or another

module _ {A : Type 0} (x : Tried A) (other : Unit {0} → Tried A) where
  pub or_else_fit : (a : A) (j : ℕ) → x ≡ fit a j → (x or_else other) ≡ fit a j
  unfolding ◌or_else◌
  or_else_fit a j q = ap (λ (y : Tried A). y or_else other) q

  pub or_else_misfit : x ≡ misfit → (x or_else other) ≡ other tt
  unfolding ◌or_else◌
  or_else_misfit q = ap (λ (y : Tried A). y or_else other) q

  pub or_else_refused : (r : Refusal) → x ≡ refused r → (x or_else other) ≡ refused r
  unfolding ◌or_else◌
  or_else_refused r q = ap (λ (y : Tried A). y or_else other) q

-- ---- one after another

module _ {A B : Type 0} (x : Tried A) (next : A → ℕ → Tried B) where
  pub then_fit : (a : A) (j : ℕ) → x ≡ fit a j → (x then next) ≡ next a j
  unfolding ◌then◌
  then_fit a j q = ap (λ (y : Tried A). y then next) q

  pub then_misfit : x ≡ misfit → (x then next) ≡ misfit
  unfolding ◌then◌
  then_misfit q = ap (λ (y : Tried A). y then next) q

  pub then_refused : (r : Refusal) → x ≡ refused r → (x then next) ≡ refused r
  unfolding ◌then◌
  then_refused r q = ap (λ (y : Tried A). y then next) q

module _ {S : Type 0} (x : Tried S) (again : ℕ → S → Tried S) (i : ℕ) (s : S) where
  pub while_fit : (s' : S) (j : ℕ) → x ≡ fit s' j → while_it_fits x again i s ≡ again j s'
  unfolding while_it_fits
  while_fit s' j q = ap (λ (y : Tried S). while_it_fits y again i s) q

  pub while_misfit : x ≡ misfit → while_it_fits x again i s ≡ fit s i
  unfolding while_it_fits
  while_misfit q = ap (λ (y : Tried S). while_it_fits y again i s) q

  pub while_refused : (r : Refusal) → x ≡ refused r → while_it_fits x again i s ≡ refused r
  unfolding while_it_fits
  while_refused r q = ap (λ (y : Tried S). while_it_fits y again i s) q

-- ---- again and again: n is a spare number, at least the bytes that are left, and x what the whole gives

module _ {S : Type 0} (try : ℕ → S → Tried S) (e i : ℕ) (s : S) (x : Tried S) where
  pub repeated_fit : (n : ℕ) → repeated try n i s ≡ x → (s' : S) (j : ℕ) → try i s ≡ fit s' j → i + 1 ≤ j → j ≤ e → e - i ≤ n
      → (m : ℕ) × (e - j ≤ m) × (repeated try m j s' ≡ x)
  unfolding repeated
  repeated_fit zero w s' j q h g u = absurd (let z : ⊥ = omega arith in z)
  repeated_fit (suc n) w s' j q h g u = (n, omega arith, sym (while_fit (try i s) (repeated try n) i s s' j q) ∙ w)

  pub repeated_misfit : (n : ℕ) → repeated try n i s ≡ x → try i s ≡ misfit → fit s i ≡ x
  unfolding repeated
  repeated_misfit zero w q = w
  repeated_misfit (suc n) w q = sym (while_misfit (try i s) (repeated try n) i s q) ∙ w

  pub repeated_refused : (n : ℕ) → repeated try n i s ≡ x → (r : Refusal) → try i s ≡ refused r → i < e → e - i ≤ n → refused r ≡ x
  unfolding repeated
  repeated_refused zero w r q h u = absurd (let z : ⊥ = omega arith in z)
  repeated_refused (suc n) w r q h u = sym (while_refused (try i s) (repeated try n) i s r q) ∙ w

-- ---- a list

module _ {S : Type 0} (separator : ℕ) (t : List ℕ) (e : ℕ) (item : ℕ → S → Tried S) (i : ℕ) (s : S) (x : Tried S) where
  further_step : (n : ℕ) → stands separator t i e ≡ true
      → further separator t e item (suc n) i s ≡ while_it_fits (item (i + 1) s) (further separator t e item n) i s
  unfolding further
  further_step n b = rw (b, further)

  pub further_none : (n : ℕ) → further separator t e item n i s ≡ x → stands separator t i e ≡ false → fit s i ≡ x
  unfolding further
  further_none zero w b = w
  further_none (suc n) w b = sym (rw (b, further)) ∙ w

  pub further_item : (n : ℕ) → further separator t e item n i s ≡ x → stands separator t i e ≡ true
      → (s' : S) (j : ℕ) → item (i + 1) s ≡ fit s' j → i + 1 ≤ j → e - i ≤ n
      → (m : ℕ) × (e - j ≤ m) × (further separator t e item m j s' ≡ x)
  further_item zero w b s' j q h u = absurd (let l = stands_before separator t i e b in let z : ⊥ = omega arith in z)
  further_item (suc n) w b s' j q h u =
      (n, omega arith, sym (further_step n b ∙ while_fit (item (i + 1) s) (further separator t e item n) i s s' j q) ∙ w)

  pub further_ends : (n : ℕ) → further separator t e item n i s ≡ x → stands separator t i e ≡ true → item (i + 1) s ≡ misfit → fit s i ≡ x
  unfolding further
  further_ends zero w b q = w
  further_ends (suc n) w b q = sym (further_step n b ∙ while_misfit (item (i + 1) s) (further separator t e item n) i s q) ∙ w

  pub further_refused : (n : ℕ) → further separator t e item n i s ≡ x → stands separator t i e ≡ true
      → (r : Refusal) → item (i + 1) s ≡ refused r → e - i ≤ n → refused r ≡ x
  further_refused zero w b r q u = absurd (let l = stands_before separator t i e b in let z : ⊥ = omega arith in z)
  further_refused (suc n) w b r q u =
      sym (further_step n b ∙ while_refused (item (i + 1) s) (further separator t e item n) i s r q) ∙ w

module _ {S : Type 0} (separator : ℕ) (t : List ℕ) (e : ℕ) (item : ℕ → S → Tried S) (i : ℕ) (s : S) where
  pub listed_fit : (s' : S) (j : ℕ) → item i s ≡ fit s' j → i ≤ j
      → (n : ℕ) × (e - j ≤ n) × (further separator t e item n j s' ≡ listed separator t e item i s)
  unfolding listed
  listed_fit s' j q h = (e - i, omega arith, sym (then_fit (item i s) (λ (a : S) (k : ℕ). further separator t e item (e - i) k a) s' j q))

  pub listed_misfit : item i s ≡ misfit → listed separator t e item i s ≡ misfit
  unfolding listed
  listed_misfit q = then_misfit (item i s) (λ (a : S) (k : ℕ). further separator t e item (e - i) k a) q

  pub listed_refused : (r : Refusal) → item i s ≡ refused r → listed separator t e item i s ≡ refused r
  unfolding listed
  listed_refused r q = then_refused (item i s) (λ (a : S) (k : ℕ). further separator t e item (e - i) k a) r q
