-- Attempts that agree: where the first fits, the other fits there, with what is seen of it; where it doesn't fit, the other doesn't; where it is refused,
-- nothing is asked of the other. One law for each way to put attempts together. Assumes nothing.
use Prim.Native.Nat.{ℕ, zero, suc, ◌+◌, ◌-◌}
use mathlib.Core.Path.{◌≡◌, refl, sym, subst}
use mathlib.Core.Bool.{Bool, true, false}
use mathlib.Core.List.{List}
use Rattle.runs.specs.Runs.{stands}
use Rattle.words.specs.Trying.{Tried, fit, misfit, refused, ◌or_else◌, ◌then◌, while_it_fits, repeated, further, listed}
use Rattle.words.proofs.Attempts.{or_else_fit, or_else_misfit, then_fit, then_misfit, while_fit, while_misfit}

unfoldable pub Agrees : {A B : Type 0} → (A → B) → Tried A → Tried B → Type 0
Agrees f (fit a j) y = y ≡ fit (f a) j
Agrees f misfit y = y ≡ misfit
Agrees f (refused r) y = Unit {0}

pub agrees_or : {A B : Type 0} (f : A → B) (x y : Tried A) (u v : Tried B) → Agrees f x u → Agrees f y v → Agrees f (x or_else λ _. y) (u or_else λ _. v)
unfolding Agrees ◌or_else◌
agrees_or f (fit a j) y u v p q = or_else_fit u (λ _. v) (f a) j p
agrees_or f misfit y u v p q = subst (Agrees f y) (sym (or_else_misfit u (λ _. v) p)) q
agrees_or f (refused r) y u v p q = tt

pub agrees_then : {A B C D : Type 0} (f : A → B) (g : C → D) (x : Tried A) (y : Tried B) (k : A → ℕ → Tried C) (l : B → ℕ → Tried D)
    → Agrees f x y → ((a : A) (j : ℕ) → Agrees g (k a j) (l (f a) j)) → Agrees g (x then k) (y then l)
unfolding Agrees ◌then◌
agrees_then f g (fit a j) y k l p h = subst (Agrees g (k a j)) (sym (then_fit y l (f a) j p)) (h a j)
agrees_then f g misfit y k l p h = then_misfit y l p
agrees_then f g (refused r) y k l p h = tt

module _ {S U : Type 0} (f : S → U) where
  agrees_while : (x : Tried S) (y : Tried U) (k : ℕ → S → Tried S) (l : ℕ → U → Tried U) (i : ℕ) (s : S)
      → Agrees f x y → ((j : ℕ) (v : S) → Agrees f (k j v) (l j (f v))) → Agrees f (while_it_fits x k i s) (while_it_fits y l i (f s))
  unfolding Agrees while_it_fits
  agrees_while (fit v j) y k l i s p h = subst (Agrees f (k j v)) (sym (while_fit y l i (f s) (f v) j p)) (h j v)
  agrees_while misfit y k l i s p h = while_misfit y l i (f s) p
  agrees_while (refused r) y k l i s p h = tt

  pub agrees_if : (b : Bool) (x y : Tried S) (u v : Tried U) → Agrees f x u → Agrees f y v
      → Agrees f (elim b as (λ _. Tried S) [ true ↦ x | false ↦ y ]) (elim b as (λ _. Tried U) [ true ↦ u | false ↦ v ])
  agrees_if true x y u v p q = p
  agrees_if false x y u v p q = q

  module _ (try : ℕ → S → Tried S) (try' : ℕ → U → Tried U) (h : (i : ℕ) (s : S) → Agrees f (try i s) (try' i (f s))) where
    pub agrees_repeated : (n i : ℕ) (s : S) → Agrees f (repeated try n i s) (repeated try' n i (f s))
    unfolding Agrees repeated
    agrees_repeated zero i s = refl
    agrees_repeated (suc n) i s = agrees_while (try i s) (try' i (f s)) (repeated try n) (repeated try' n) i s (h i s) (agrees_repeated n)

    agrees_further : (b : ℕ) (t : List ℕ) (e n i : ℕ) (s : S) → Agrees f (further b t e try n i s) (further b t e try' n i (f s))
    unfolding Agrees further
    agrees_further b t e zero i s = refl
    agrees_further b t e (suc n) i s =
        agrees_if (stands b t i e) _ _ _ _
        (agrees_while (try (i + 1) s) (try' (i + 1) (f s)) (further b t e try n) (further b t e try' n) i s (h (i + 1) s) (agrees_further b t e n))
        refl

    pub agrees_listed : (b : ℕ) (t : List ℕ) (e i : ℕ) (s : S) → Agrees f (listed b t e try i s) (listed b t e try' i (f s))
    unfolding listed
    agrees_listed b t e i s =
        agrees_then f f (try i s) (try' i (f s)) (λ s' j. further b t e try (e - i) j s') (λ s' j. further b t e try' (e - i) j s')
        (h i s) (λ s' j. agrees_further b t e (e - i) j s')
