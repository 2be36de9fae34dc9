-- What stands first or last in a part, told by places of the whole. Assumes nothing.
use mathlib.Core.Path.{◌≡◌, sym, ap, subst, ◌∙◌}
use mathlib.Core.Bool.{true, false}
use mathlib.Core.List.{List}
use Prim.Native.Nat.{ℕ, zero, suc, ◌+◌, ◌-◌, ◌<◌, ◌≤◌}
use native.Mathlib.Decide.{dec_lt}
use native.Mathlib.Omega.{arith}
use lib.ListN.{length, drop, get_or}
use lib.Seq.{get_or-take, get_or-drop}
use Rattle.buffer.specs.Bytes.{part}
use Rattle.buffer.proofs.Parts.{part_step}
use Rattle.utf8.specs.Utf8.{within, trail}
use Rattle.utf8.proofs.Ranges.{within_in, within_below, within_above}
use Rattle.utf8.proofs.Judging.{goes}
use Rattle.comparisons.specs.Places.{Starts}
use Rattle.comparisons.proofs.Lining.{Single}
use Rattle.comparisons.proofs.Parts.{part_none}
use Rattle.comparisons.proofs.Splitting.{Trails}

-- a byte of a part
pub at_part : (d : List ℕ) (i e k : ℕ) → k < e - i → get_or (part i e d) k 0 ≡ get_or d (i + k) 0
at_part d i e k h = get_or-take (e - i) (drop i d) k 0 h ∙ get_or-drop i d k 0

-- what holds of bytes of a part, at places of the whole
pub in_whole : (P : ℕ → Type 0) (d : List ℕ) (i e m n : ℕ) → i + n ≤ e → ((k : ℕ) → m ≤ k → k < n → P (get_or (part i e d) k 0)) → (k : ℕ) → i + m ≤ k → k < i + n → P (get_or d k 0)
in_whole P d i e m n h f k a b =
    let z : i + (k - i) ≡ k = omega arith in
    subst P (at_part d i e (k - i) (omega arith) ∙ ap (λ (j : ℕ). get_or d j 0) z) (f (k - i) (omega arith) (omega arith))

-- no newline in a part
pub single_part : (d : List ℕ) (j : ℕ) → j ≤ length d → (m i : ℕ) → m ≡ j - i → ((k : ℕ) → i ≤ k → k < j → get_or d k 0 ≡ 0x0A → ⊥) → Single (part i j d)
single_part d j g zero i q f = subst Single (sym (part_none d i j (omega arith))) tt
single_part d j g (suc m) i q f =
    subst Single (sym (part_step d i j (omega arith) g)) (f i (omega arith) (omega arith), single_part d j g m (i + 1) (omega arith) (λ k h l. f k (omega arith) l))

-- whether a byte goes on with a character
pub trails_by : (b : ℕ) → (Starts b → ⊥) → within trail b ≡ true
trails_by b f =
    elim (dec_lt b 0x80) [
      | yes h ↦ absurd (f (omega arith))
      | no n ↦ elim (dec_lt 0xBF b) [ yes h ↦ absurd (f (omega arith)) | no m ↦ within_in 0x80 0xBF b (omega arith) (omega arith) ]
    ]

pub starts_by : (b : ℕ) → Starts b → within trail b ≡ false
starts_by b e =
    elim (dec_lt b 0x80) [
      | yes h ↦ within_below 0x80 0xBF b h
      | no n ↦ elim (dec_lt 0xBF b) [ yes h ↦ within_above 0x80 0xBF b h | no m ↦ absurd (let z : ⊥ = omega (arith, e, goes b (omega arith) (omega arith)) in z) ]
    ]

-- a part whose bytes all go on
pub trails_part : (d : List ℕ) (j : ℕ) → j ≤ length d → (m i : ℕ) → m ≡ j - i → ((k : ℕ) → i ≤ k → k < j → Starts (get_or d k 0) → ⊥) → Trails (part i j d)
trails_part d j g zero i q f = subst Trails (sym (part_none d i j (omega arith))) tt
trails_part d j g (suc m) i q f =
    subst Trails (sym (part_step d i j (omega arith) g)) (trails_by (get_or d i 0) (f i (omega arith) (omega arith)), trails_part d j g m (i + 1) (omega arith) (λ k h l. f k (omega arith) l))
