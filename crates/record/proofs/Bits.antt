-- A bit of a number, by the test in the code and by division. Assumes nothing.
use Rattle.std.proofs.Common.{◌≡◌, ℕ, zero, suc, ◌*◌, ◌/◌, ◌%◌, ◌^◌, ◌<◌, true, false, not, bit_and, arith, ap, sym, ◌∙◌}
use Rattle.std.proofs.lemmas.Nat.Bits.{and_pow, bit_at_lowest}
use Rattle.std.proofs.lemmas.Nat.{pow_pos}
use lib.Dec.{eqb}
use borrow.Author.Tests.{eq-eqb, ne_eqb}

test_of : (x y : ℕ) → x < 2 → 0 < y → not (eqb (x * y) 0) ≡ eqb x 1
test_of zero y h g = ap not (eq-eqb (0 * y) 0 (omega arith))
test_of (suc zero) y h g = ap not (ne_eqb (1 * y) 0 (λ e. omega arith))
test_of (suc (suc x)) y h g = absurd (omega arith)

-- whether bit k is set
pub bit_test : (n k : ℕ) → not (eqb (bit_and n (2 ^ k)) 0) ≡ eqb (n / 2 ^ k % 2) 1
bit_test n k = ap (λ (m : ℕ). not (eqb m 0)) (and_pow n k) ∙ test_of (n / 2 ^ k % 2) (2 ^ k) (omega arith) (pow_pos k)

-- the same for the lowest bit
pub bit_test_lowest : (n : ℕ) → not (eqb (bit_and n 1) 0) ≡ eqb (n % 2) 1
bit_test_lowest n = bit_test n 0 ∙ ap (λ (m : ℕ). eqb m 1) (bit_at_lowest n)

pub bit_on : (n k : ℕ) → (bit_and n (2 ^ k) ≡ 0 → ⊥) → eqb (n / 2 ^ k % 2) 1 ≡ true
bit_on n k h = sym (bit_test n k) ∙ ap not (ne_eqb (bit_and n (2 ^ k)) 0 h)

pub bit_off : (n k : ℕ) → bit_and n (2 ^ k) ≡ 0 → eqb (n / 2 ^ k % 2) 1 ≡ false
bit_off n k h = sym (bit_test n k) ∙ ap not (eq-eqb (bit_and n (2 ^ k)) 0 h)
