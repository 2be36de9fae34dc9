-- Laws of the level numbers: which mean a print, which a level, and which are refused. Assumes nothing.
use mathlib.Core.Path.{◌≡◌, refl, sym, subst, ◌∙◌}
use Prim.Native.Nat.{ℕ, zero, suc, ◌<◌, ◌≤◌}
use native.Mathlib.Omega.{arith}
use borrow.Author.Tests.{ne_eqb}
use Rattle.record.specs.declared.Level.{Level}
use Rattle.record.specs.Levels.{level_in, level_of}

-- "level over 5"
pub over_five : (n : ℕ) → 5 < n → level_of n ≡ Level.Refused
unfolding level_of level_in
over_five n h =
    rw (
      ne_eqb 0 n (λ e. omega arith),
      ne_eqb 1 n (λ e. omega arith),
      ne_eqb 2 n (λ e. omega arith),
      ne_eqb 3 n (λ e. omega arith),
      ne_eqb 4 n (λ e. omega arith),
      ne_eqb 5 n (λ e. omega arith),
      level_of,
      level_in,
    )

-- what is known of a number by what it means
abbrev pub Numbers : Level → ℕ → Type 0
Numbers Level.Print n = n ≡ 0
Numbers (Level.Named x c) n = (0 < n) × (n ≤ 5)
Numbers Level.Refused n = 5 < n

numbers_of : (n : ℕ) → Numbers (level_of n) n
unfolding level_of level_in
numbers_of zero = refl
numbers_of (suc zero) = (omega arith, omega arith)
numbers_of (suc (suc zero)) = (omega arith, omega arith)
numbers_of (suc (suc (suc zero))) = (omega arith, omega arith)
numbers_of (suc (suc (suc (suc zero)))) = (omega arith, omega arith)
numbers_of (suc (suc (suc (suc (suc zero))))) = (omega arith, omega arith)
numbers_of (suc (suc (suc (suc (suc (suc n)))))) = rw (over_five (suc (suc (suc (suc (suc (suc n)))))) (omega arith)) (omega arith)

-- the same where the meaning l is found to be k
pub numbered : (n : ℕ) (l k : Level) → l ≡ level_of n → l ≡ k → Numbers k n
numbered n l k e t = subst (λ (x : Level). Numbers x n) (sym e ∙ t) (numbers_of n)
