-- What an answer of the code tells, and the bounds that come with it: of any reader, one law for each case. Assumes nothing.
use Prim.Native.Nat.{ℕ}
use mathlib.Core.Path.{◌≡◌, refl, sym, ap, ◌∙◌}
use Rattle.std.specs.Prelude.{Option, Some, None, Result, Ok, Err, MatchOption, IsSomeAnd}
use Rattle.std.specs.Option.{option_map}
use Rattle.refusals.specs.declared.Refusal.{Refusal}
use Rattle.words.specs.Trying.{Tried, fit, misfit, refused, ◌or_else◌}
use Rattle.words.specs.Within.{told, told_read, Fitting}
use Rattle.words.proofs.Attempts.{or_else_fit, or_else_misfit, or_else_refused}

-- ---- the code's answer is o, and it tells x

module _ {A B : Type 0} (f : A → B) (o : Result (Option (ℕ × A)) Refusal) (x : Tried B) (w : told f o ≡ x) where
  pub told_fit : (p : ℕ × A) → o ≡ Ok (Some p) → x ≡ fit (f p.1) p.0
  unfolding told
  told_fit p q = sym w ∙ ap (told f) q

  pub told_misfit : o ≡ Ok None → x ≡ misfit
  unfolding told
  told_misfit q = sym w ∙ ap (told f) q

  pub told_refused : (r : Refusal) → o ≡ Err r → x ≡ refused r
  unfolding told
  told_refused r q = sym w ∙ ap (told f) q

-- ---- what is tried first fits or is refused, or something else is tried

module _ {A B : Type 0} (f : A → B) (o : Result (Option (ℕ × A)) Refusal) (x : Tried B) (other : Unit {0} → Tried B) (w : told f o ≡ x) where
  pub told_first : (p : ℕ × A) → o ≡ Ok (Some p) → fit (f p.1) p.0 ≡ (x or_else other)
  told_first p q = sym (or_else_fit x other (f p.1) p.0 (told_fit f o x w p q))

  pub told_stopped : (r : Refusal) → o ≡ Err r → refused r ≡ (x or_else other)
  told_stopped r q = sym (or_else_refused x other r (told_refused f o x w r q))

  pub told_other : o ≡ Ok None → other tt ≡ (x or_else other)
  told_other q = sym (or_else_misfit x other (told_misfit f o x w q))

-- ---- the bounds of what fits

module _ {A : Type 0} (so : ℕ → A → Type 0) (o : Result (Option (ℕ × A)) Refusal) (w : Fitting so o) where
  pub fitting : (p : ℕ × A) → o ≡ Ok (Some p) → so p.0 p.1
  unfolding Fitting
  fitting p q = rw q at w

pub fitting_on : {A : Type 0} (so also : ℕ → A → Type 0) (o : Result (Option (ℕ × A)) Refusal) → ((j : ℕ) (a : A) → so j a → also j a) → Fitting so o → Fitting also o
unfolding Fitting
fitting_on so also (Ok (Some p)) g w = g p.0 p.1 w
fitting_on so also (Ok None) g w = tt
fitting_on so also (Err r) g w = tt

-- ---- what is found, and the place after it, which the code puts beside it

-- r is what `map` makes of o by a closure that answers so
pub placed : {A : Type 0} (j : ℕ) (o : Option A) (r : Option (ℕ × A)) (so : A → ℕ × A → Type 0) → ((a : A) (p : ℕ × A) → so a p → p ≡ (j, a))
    → MatchOption o (r ≡ None) (λ a. IsSomeAnd r (so a)) → r ≡ option_map (λ a. (j, a)) o
placed j None r so g h = h
placed j (Some a) (Some p) so g h = ap Some (g a p h)
placed j (Some a) None so g h = elim h [ ]

-- ---- an answer is settled by what it tells

told_back : {A : Type 0} → Tried A → Result (Option (ℕ × A)) Refusal
told_back (fit a j) = Ok (Some (j, a))
told_back misfit = Ok None
told_back (refused r) = Err r

told_again : {A : Type 0} (o : Result (Option (ℕ × A)) Refusal) → told_back (told_read o) ≡ o
unfolding told told_back
told_again (Ok (Some p)) = refl
told_again (Ok None) = refl
told_again (Err r) = refl

pub told_settled : {A : Type 0} (x y : Result (Option (ℕ × A)) Refusal) → told_read x ≡ told_read y → x ≡ y
told_settled x y e = sym (told_again x) ∙ ap told_back e ∙ told_again y
