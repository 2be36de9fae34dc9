-- Laws of the number that digits say. Assumes nothing.
use Prim.Native.Nat.{ℕ, ◌+◌, ◌-◌, ◌*◌, ◌≤◌, ◌<◌}
use mathlib.Core.Path.{◌≡◌, refl, ap, sym}
use mathlib.Core.Bool.{Bool, true, false}
use mathlib.Core.List.{List, [], ◌∷◌}
use native.Mathlib.Omega.{arith}
use lib.Dec.{leb}
use lib.ListN.{length, get_or, drop, drop_of_length-le}
use borrow.Author.Tests.{le-leb, lt-leb, leb-true, leb-false}
use Rattle.std.specs.Bool.{then_some}
use Rattle.std.specs.Prelude.{Option, Some, None, MatchOption}
use Rattle.buffer.proofs.Parts.{drop_step}
use Rattle.runs.specs.Runs.{decimal}

-- v is what the digit at i says
pub decimal_on : (n : ℕ) (w : List ℕ) (i v : ℕ) → i < length w → v ≡ get_or w i 0 - 0x30 → decimal n (drop i w) ≡ decimal (n * 10 + v) (drop (i + 1) w)
unfolding decimal
decimal_on n w i v h q = rw q (ap (decimal n) (drop_step w i h))

pub decimal_end : (n : ℕ) (w : List ℕ) (i : ℕ) → length w ≤ i → decimal n (drop i w) ≡ n
unfolding decimal
decimal_end n w i h = ap (decimal n) (drop_of_length-le w h)

-- one digit more never makes the number less
pub decimal_grows : (n : ℕ) (w : List ℕ) → n ≤ decimal n w
unfolding decimal
decimal_grows n [] = omega arith
decimal_grows n (b ∷ w) = let h = decimal_grows (n * 10 + (b - 0x30)) w in omega arith

-- what is over `most` on the way stays over it
pub decimal_over : (n : ℕ) (w : List ℕ) (d most : ℕ) → decimal n w ≡ d → most < n → None ≡ then_some (leb d most) d
decimal_over n w d most q h = let g = decimal_grows n w in rw (lt-leb d most (omega arith))

pub decimal_within : (n d most : ℕ) → n ≡ d → n ≤ most → Some n ≡ then_some (leb d most) d
decimal_within n d most q h = rw (le-leb d most (omega arith)) (ap Some q)

-- what an answer tells
pub number_tells : (d most : ℕ) (o : Option ℕ) → o ≡ then_some (leb d most) d → MatchOption o (most < d) (λ n. (d ≡ n) × (n ≤ most))
number_tells d most o e = tells (leb d most) refl o e
  where
    tells : (b : Bool) → leb d most ≡ b → (o : Option ℕ) → o ≡ then_some b d → MatchOption o (most < d) (λ n. (d ≡ n) × (n ≤ most))
    tells true h None e = cc
    tells true h (Some n) e = let k : n ≡ d = cc in let g = leb-true _ _ h in (sym k, omega arith)
    tells false h None e = leb-false _ _ h
    tells false h (Some n) e = cc
