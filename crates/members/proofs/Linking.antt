-- Links, from one member back to the next. Assumes nothing.
use Prim.Native.Nat.{ℕ, zero, suc, ◌+◌, ◌-◌, ◌≤◌}
use mathlib.Core.Path.{◌≡◌, refl, sym, ap, ◌∙◌}
use mathlib.Core.List.{List}
use native.Mathlib.Omega.{arith}
use Rattle.segments.specs.declared.Cell.{Cell}
use Rattle.segments.specs.Pool.{back}
use Rattle.segments.proofs.Chains.{back_below}
use Rattle.members.specs.Links.{back_by, OnChain}

module _ (cells : List Cell) where
  pub by_below : (n l : ℕ) → back_by cells n l ≤ l
  unfolding back_by
  by_below zero l = omega arith
  by_below (suc n) l = omega (arith, by_below n (back cells (l - 1)), back_below cells (l - 1))

  by_end : (n l : ℕ) → l ≤ n → back_by cells n l ≡ 0
  unfolding back_by
  by_end zero l h = omega arith
  by_end (suc n) l h = by_end n (back cells (l - 1)) (omega (arith, back_below cells (l - 1)))

  pub by_further : (n l : ℕ) → back_by cells (suc n) l ≡ back cells (back_by cells n l - 1)
  unfolding back_by
  by_further zero l = refl
  by_further (suc n) l = by_further n (back cells (l - 1))

  -- from where it starts to before the first member
  pub on_start : (l : ℕ) → OnChain cells l l
  unfolding back_by
  on_start l = record { count = 0; leads = refl }

  pub on_end : (l : ℕ) → OnChain cells l 0
  on_end l = record { count = l; leads = by_end l l (omega arith) }

  pub on_below : (l j : ℕ) → OnChain cells l j → j ≤ l
  on_below l j o = omega (arith, by_below o.count l, o.leads)

  -- what is back from the member before is back from a member
  pub on_before : (i b j : ℕ) → b ≡ back cells i → OnChain cells b j → OnChain cells (i + 1) j
  unfolding back_by
  on_before i b j e o = record {
    count = suc o.count;
    leads = ap (λ (k : ℕ). back_by cells o.count (back cells k)) (let q : i + 1 - 1 ≡ i = omega arith in q) ∙ ap (back_by cells o.count) (sym e) ∙ o.leads;
  }
