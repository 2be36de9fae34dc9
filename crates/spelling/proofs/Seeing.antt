-- Laws of a word compared byte by byte, in any case of its letters or in one, and with one byte repeated. Assumes nothing.
use Prim.Native.Nat.{ℕ, suc}
use mathlib.Core.Path.{◌≡◌, refl, ap, sym, ◌∙◌}
use mathlib.Core.Bool.{Bool, true, false, ◌&&◌}
use mathlib.Core.List.{List, [], ◌∷◌}
use native.Mathlib.Decide.{ℕ_discrete as dec_eq}
use native.Mathlib.Omega.{arith}
use lib.Dec.{eqb}
use lib.ListN.{length, replicate}
use Rattle.std.specs.List.{list_all, zip}
use borrow.Author.Tests.{eq-eqb, ne_eqb}
use Rattle.buffer.specs.Bytes.{same}
use Rattle.runs.specs.Runs.{lowered}
use Rattle.spelling.specs.Tables.{compared_byte, compared}

-- a test and those after it
in_turn : (p : Bool) {q r : Bool} → q ≡ r → (p && q) ≡ elim p [ true ↦ r | false ↦ false ]
in_turn true e = e
in_turn false e = refl

eqb_turned : (x y : ℕ) → eqb x y ≡ eqb y x
eqb_turned x y = elim (dec_eq x y) [ yes e ↦ eq-eqb x y e ∙ sym (eq-eqb y x (sym e)) | no n ↦ ne_eqb x y n ∙ sym (ne_eqb y x (λ e. n (sym e))) ]

lowered_length : (w : List ℕ) → length (lowered w) ≡ length w
unfolding lowered
lowered_length [] = refl
lowered_length (b ∷ w) = ap suc (lowered_length w)

pub seen_length : (c : Bool) (w : List ℕ) → length (compared c w) ≡ length w
unfolding compared
seen_length true w = lowered_length w
seen_length false w = refl

seen_none : (c : Bool) → compared c [] ≡ []
unfolding compared lowered
seen_none true = refl
seen_none false = refl

seen_step : (c : Bool) (b : ℕ) (w : List ℕ) → compared c (b ∷ w) ≡ compared_byte c b ∷ compared c w
unfolding compared compared_byte lowered
seen_step true b w = refl
seen_step false b w = refl

-- a word of the same length is compared byte by byte
pub pairs_same : (c : Bool) (w v : List ℕ) → length w ≡ length v → list_all (λ (p : ℕ × ℕ). eqb p.0 (compared_byte c p.1)) (zip w v) ≡ same w (compared c v)
unfolding same
pairs_same c [] [] h = rw (seen_none c)
pairs_same c [] (b ∷ v) h = cc
pairs_same c (a ∷ w) [] h = cc
pairs_same c (a ∷ w) (b ∷ v) h = rw (seen_step c b v) (in_turn (eqb a (compared_byte c b)) (pairs_same c w v (let e : length w ≡ length v = omega arith in e)))

-- one byte repeated
pub repeats_same : (b : ℕ) (w : List ℕ) → list_all (λ (x : ℕ). eqb x b) w ≡ same (replicate (length w) b) w
unfolding same
repeats_same b [] = refl
repeats_same b (x ∷ w) = rw (eqb_turned x b) (in_turn (eqb b x) (repeats_same b w))
