-- Laws of a byte at a place and of runs, one for each case: what is left of a run is e - i. Assumes nothing.
use Prim.Native.Nat.{ℕ, zero, suc, ◌+◌, ◌-◌, ◌≤◌, ◌<◌}
use mathlib.Core.Path.{◌≡◌, refl, ap, ◌∙◌}
use mathlib.Core.Bool.{Bool, true, false, cond, ◌&&◌}
use mathlib.Core.List.{List}
use native.Mathlib.Omega.{arith}
use lib.Dec.{eqb, ltb}
use native.Mathlib.Nat.{add-zero}
use lib.ListN.{length, get_or, take, drop}
use Rattle.std.specs.List.{prefix_len, take_while}
use Rattle.std.proofs.lemmas.List.Folds.{length-prefix_len}
use Rattle.buffer.specs.Bytes.{part}
use Rattle.buffer.proofs.Parts.{drop_step}
use borrow.Author.Tests.{eq-eqb, ne_eqb, lt-ltb, le-ltb, ltb-true, eqb-true}
use Rattle.runs.specs.Runs.{stands, run_end}

-- ---- a byte at a place

both : (p q : Bool) → (p && q) ≡ true → (p ≡ true) × (q ≡ true)
both true q h = (refl, h)
both false q h = (h, absurd (let z : ◌≡◌ {A = ℕ} 0 1 = cc in let y : ⊥ = omega arith in y))

neither : (p q : Bool) → q ≡ false → (p && q) ≡ false
neither true q h = h
neither false q h = refl

module _ (b : ℕ) (t : List ℕ) (i e : ℕ) where
  pub stands_here : i < e → get_or t i 0 ≡ b → stands b t i e ≡ true
  unfolding stands
  stands_here h q = rw (lt-ltb i e h, eq-eqb (get_or t i 0) b q)

  pub stands_not : (get_or t i 0 ≡ b → ⊥) → stands b t i e ≡ false
  unfolding stands
  stands_not q = neither (ltb i e) (eqb (get_or t i 0) b) (ne_eqb (get_or t i 0) b q)

  pub stands_end : e ≤ i → stands b t i e ≡ false
  unfolding stands
  stands_end h = rw (le-ltb i e h)

  pub stands_before : stands b t i e ≡ true → i < e
  unfolding stands
  stands_before q = ltb-true i e (both (ltb i e) (eqb (get_or t i 0) b) q).0

  pub stands_byte : stands b t i e ≡ true → get_or t i 0 ≡ b
  unfolding stands
  stands_byte q = eqb-true (get_or t i 0) b (both (ltb i e) (eqb (get_or t i 0) b) q).1

-- ---- runs

left : (e i : ℕ) → i < e → e - i ≡ suc (e - (i + 1))
left e i h = omega arith

module _ (passes : ℕ → Bool) (t : List ℕ) (e i : ℕ) where
  pub run_on : i < e → passes (get_or t i 0) ≡ true → run_end passes t (e - i) i ≡ run_end passes t (e - (i + 1)) (i + 1)
  unfolding run_end
  run_on h b = rw (left e i h, b, run_end)

  pub run_stop : i < e → passes (get_or t i 0) ≡ false → run_end passes t (e - i) i ≡ i
  unfolding run_end
  run_stop h b = rw (left e i h, b, run_end)

  pub run_end_lem : e ≤ i → run_end passes t (e - i) i ≡ i
  unfolding run_end
  run_end_lem h = let q : e - i ≡ 0 = omega arith in rw q

  pub run_stop_anywhere : passes (get_or t i 0) ≡ false → (n : ℕ) → run_end passes t n i ≡ i
  unfolding run_end
  run_stop_anywhere b zero = refl
  run_stop_anywhere b (suc n) = rw (b, run_end)

one_more : (b : Bool) (i n r : ℕ) → i + 1 ≤ r → r ≤ i + 1 + n
    → (i ≤ (elim b as (λ _. ℕ) [ true ↦ r | false ↦ i ])) × ((elim b as (λ _. ℕ) [ true ↦ r | false ↦ i ]) ≤ i + suc n)
one_more true i n r h g = omega arith
one_more false i n r h g = omega arith

run_past : (passes : ℕ → Bool) (t : List ℕ) (n i : ℕ) → (i ≤ run_end passes t n i) × (run_end passes t n i ≤ i + n)
unfolding run_end
run_past passes t zero i = omega arith
run_past passes t (suc n) i =
    let h = run_past passes t n (i + 1) in one_more (passes (get_or t i 0)) i n (run_end passes t n (i + 1)) h.0 h.1

-- where a run ends lies between its two ends
pub run_within : (passes : ℕ → Bool) (t : List ℕ) (e i : ℕ) → i ≤ e → (i ≤ run_end passes t (e - i) i) × (run_end passes t (e - i) i ≤ e)
run_within passes t e i h = let g = run_past passes t (e - i) i in omega arith

-- from a place on: how many bytes pass before the first that doesn't
leads : (passes : ℕ → Bool) (t : List ℕ) (n i : ℕ) → i + n ≤ length t → i + prefix_len passes (take n (drop i t)) ≡ run_end passes t n i
unfolding run_end
leads passes t zero i h = add-zero i
leads passes t (suc n) i h =
    ap (λ (w : List ℕ). i + prefix_len passes (take (suc n) w)) (drop_step t i (omega arith)) ∙ turn (passes (get_or t i 0)) (leads passes t n (i + 1) (omega arith))
  where
    turn : (b : Bool) → i + 1 + prefix_len passes (take n (drop (i + 1) t)) ≡ run_end passes t n (i + 1)
        → i + cond b (1 + prefix_len passes (take n (drop (i + 1) t))) 0 ≡ elim b [ true ↦ run_end passes t n (i + 1) | false ↦ i ]
    turn true e = omega arith
    turn false e = add-zero i

-- what the library's `take_while` takes of a part ends where the run does
pub run_lead : (passes : ℕ → Bool) (t : List ℕ) (i e : ℕ) → i ≤ e → e ≤ length t → i + length (take_while passes (part i e t)) ≡ run_end passes t (e - i) i
run_lead passes t i e h g = ap (λ (n : ℕ). i + n) (length-prefix_len passes (part i e t)) ∙ leads passes t (e - i) i (omega arith)
