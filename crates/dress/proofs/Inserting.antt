-- Laws of `reinserted`, a text with p inserted after each reset: as a text is gone through from its front, and its length. Assumes nothing.
use mathlib.Core.Path.{◌≡◌, refl, ap, ◌∙◌}
use mathlib.Core.Bool.{Bool, false}
use mathlib.Core.List.{List, [], ◌∷◌, ◌++◌}
use Prim.Native.Nat.{ℕ, zero, suc, ◌+◌, ◌≤◌}
use native.Mathlib.Omega.{arith}
use lib.ListN.{length, length-append}
use Rattle.colour.specs.Sequences.{reset, starts_with, rest_of_reset, copying, reinserted}

-- ---- from the front

pub inserted_nil : (p : List ℕ) → reinserted p [] ≡ []
unfolding reinserted copying
inserted_nil p = refl

-- where no reset begins, a byte is copied
pub inserted_other : (p : List ℕ) (b : ℕ) (s : List ℕ) → starts_with reset (b ∷ s) ≡ false → reinserted p (b ∷ s) ≡ b ∷ reinserted p s
unfolding reinserted copying rest_of_reset
inserted_other p b s e = ap (λ (x : Bool). b ∷ copying p (rest_of_reset x) s) e

-- behind a reset p is inserted
pub inserted_reset : (p s : List ℕ) → reinserted p (reset ++ s) ≡ reset ++ (p ++ reinserted p s)
unfolding reinserted copying rest_of_reset starts_with
inserted_reset p s = refl

-- ---- the length

copying_longer : (p s : List ℕ) (n : ℕ) → length s ≤ length (copying p n s)
unfolding copying
copying_longer p [] n = omega arith
copying_longer p (b ∷ s) zero = omega (arith, copying_longer p s (rest_of_reset (starts_with reset (b ∷ s))))
copying_longer p (b ∷ s) (suc zero) = omega (arith, length-append p (copying p 0 s), copying_longer p s 0)
copying_longer p (b ∷ s) (suc (suc n)) = omega (arith, copying_longer p s (suc n))

-- nothing is lost
pub inserted_longer : (p s : List ℕ) → length s ≤ length (reinserted p s)
unfolding reinserted
inserted_longer p s = copying_longer p s 0

nothing_there : (s : List ℕ) → length s ≡ 0 → s ≡ []
nothing_there [] h = refl
nothing_there (b ∷ s) h = absurd (let y : ⊥ = omega arith in y)

copying_same : (p s : List ℕ) (n : ℕ) → length (copying p n s) ≡ length s → copying p n s ≡ s
unfolding copying
copying_same p [] n h = refl
copying_same p (b ∷ s) zero h = let m = rest_of_reset (starts_with reset (b ∷ s)) in ap (λ (l : List ℕ). b ∷ l) (copying_same p s m (omega arith))
copying_same p (b ∷ s) (suc zero) h =
    let l : length (p ++ copying p 0 s) ≡ length p + length (copying p 0 s) = length-append p (copying p 0 s) in
    let m : length s ≤ length (copying p 0 s) = copying_longer p s 0 in
    ap (λ (l : List ℕ). b ∷ l ++ copying p 0 s) (nothing_there p (omega arith)) ∙ ap (λ (l : List ℕ). b ∷ l) (copying_same p s 0 (omega arith))
copying_same p (b ∷ s) (suc (suc n)) h = ap (λ (l : List ℕ). b ∷ l) (copying_same p s (suc n) (omega arith))

-- where no byte is added the text is as it was
pub inserted_same : (p s : List ℕ) → length (reinserted p s) ≡ length s → reinserted p s ≡ s
unfolding reinserted
inserted_same p s h = copying_same p s 0 h
