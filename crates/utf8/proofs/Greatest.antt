-- Laws of `top_of`, the greatest of some bytes. Assumes nothing.
use mathlib.Core.Path.{◌≡◌, ap}
use mathlib.Core.List.{List, [], ◌∷◌}
use Prim.Native.Nat.{ℕ, zero, suc, max, ◌+◌, ◌-◌, ◌<◌, ◌≤◌}
use native.Mathlib.Omega.{arith}
use lib.ListN.{length, get_or, drop, drop_of_length-le}
use lib.Seq.{get_or-take, get_or-drop}
use Rattle.buffer.specs.Bytes.{part}
use Rattle.buffer.proofs.Parts.{drop_step}
use Rattle.std.specs.Ordering.{ord_max, nat_cmp}
use Rattle.std.proofs.lemmas.Grind.{common_steps}
use Rattle.utf8.specs.Windows.{top_of}

-- no byte of a text is above its greatest
pub top_any : (s : List ℕ) (k : ℕ) → get_or s k 0 ≤ top_of s
top_any [] k = omega arith
top_any (b ∷ s) zero = omega arith
top_any (b ∷ s) (suc k) = omega (arith, top_any s k)

-- no byte of a part is above its greatest
pub top_bound : (s : List ℕ) (i e k : ℕ) → i ≤ k → k < e → get_or s k 0 ≤ top_of (part i e s)
top_bound s i e k f h =
    let j : k - i < e - i = omega arith in
    let z : i + (k - i) ≡ k = omega arith in
    omega (arith, top_any (part i e s) (k - i), get_or-take (e - i) (drop i s) (k - i) 0 j, get_or-drop i s (k - i) 0, ap (λ (n : ℕ). get_or s n 0) z)

-- from a place on: the byte there and those after it
pub top_step : (s : List ℕ) (i : ℕ) → i < length s → top_of (drop i s) ≡ max (get_or s i 0) (top_of (drop (i + 1) s))
top_step s i h = ap top_of (drop_step s i h)

pub top_end : (s : List ℕ) (i : ℕ) → length s ≤ i → top_of (drop i s) ≡ 0
top_end s i h = ap top_of (drop_of_length-le s h)

-- the library's `max` is the greater of two numbers
pub greater_of : (x y : ℕ) → ord_max nat_cmp x y ≡ max x y
greater_of x y = grind (arith, common_steps)
