-- Laws of the five writes of a formatted text. Assumes nothing.
use mathlib.Core.Path.{◌≡◌, ap, ◌∙◌}
use mathlib.Core.List.{List, ◌++◌, append_assoc}
use Prim.Native.Nat.{ℕ, ◌+◌, ◌-◌, ◌≤◌}
use native.Mathlib.Omega.{arith}
use lib.ListN.{length, take, length-append, replicate, length-replicate}
use Rattle.buffer.specs.Bytes.{part}
use Rattle.buffer.specs.Buffer.{put_at}
use Rattle.buffer.proofs.Parts.{part_length}
use Rattle.buffer.proofs.Writing.{put_drop, join}
use Rattle.colour.specs.Sequences.{reset, reinserted}
use Rattle.dress.specs.Around.{around}
use Rattle.dress.proofs.Inserting.{inserted_longer}

-- what was written before the text did not reach it
pub text_kept : (d d₁ d₂ p : List ℕ) (at a i e l z : ℕ) → d₁ ≡ put_at d at p → a ≡ at + length p → d₂ ≡ put_at d₁ a (replicate l z)
    → i ≤ e → e ≤ length d → at + (length p + (l + length (reinserted p (part i e d)))) ≡ e → part i e d₂ ≡ part i e d
text_kept d d₁ d₂ p at a i e l z e₁ ea e₂ h g n =
    let lz : length (replicate l z) ≡ l = length-replicate l z in
    let lp : length (p ++ replicate l z) ≡ length p + l = length-append p (replicate l z) ∙ ap (λ (k : ℕ). length p + k) lz in
    let j : d₂ ≡ put_at d at (p ++ replicate l z) = join d d₁ d₂ at a p (replicate l z) e₁ e₂ ea (omega (arith, inserted_longer p (part i e d))) in
    let q : at + length (p ++ replicate l z) ≤ i = omega (arith, inserted_longer p (part i e d), part_length d i e h g) in
    ap (part i e) j ∙ ap (take (e - i)) (put_drop d at i (p ++ replicate l z) q (omega arith))

-- the five writes are one
pub five_writes : (d d₁ d₂ d₃ d₄ d₅ p : List ℕ) (at a o m i e z l r : ℕ)
    → d₁ ≡ put_at d at p → a ≡ at + length p → d₂ ≡ put_at d₁ a (replicate l z) → o ≡ a + l
    → d₃ ≡ put_at d₂ o (reinserted p (part i e d₂)) → d₄ ≡ put_at d₃ e (replicate r z) → m ≡ e + r → d₅ ≡ put_at d₄ m reset
    → i ≤ e → at + (length p + (l + length (reinserted p (part i e d)))) ≡ e → e + (r + 4) ≤ length d
    → d₅ ≡ put_at d at (around p l (reinserted p (part i e d)) r z)
five_writes d d₁ d₂ d₃ d₄ d₅ p at a o m i e z l r e₁ ea e₂ eo e₃ e₄ em e₅ h n room =
    let s = reinserted p (part i e d) in
    let x = replicate l z in
    let y = replicate r z in
    let lx : length x ≡ l = length-replicate l z in
    let ly : length y ≡ r = length-replicate r z in
    let g₂ : length (p ++ x) ≡ length p + length x = length-append p x in
    let g₃ : length ((p ++ x) ++ s) ≡ length (p ++ x) + length s = length-append (p ++ x) s in
    let g₄ : length (((p ++ x) ++ s) ++ y) ≡ length ((p ++ x) ++ s) + length y = length-append ((p ++ x) ++ s) y in
    let k = text_kept d d₁ d₂ p at a i e l z e₁ ea e₂ h (omega arith) n in
    let j₂ = join d d₁ d₂ at a p x e₁ e₂ ea (omega arith) in
    let j₃ = join d d₂ d₃ at o (p ++ x) s j₂ (e₃ ∙ ap (λ (t : List ℕ). put_at d₂ o (reinserted p t)) k) (omega arith) (omega arith) in
    let j₄ = join d d₃ d₄ at e ((p ++ x) ++ s) y j₃ e₄ (omega arith) (omega arith) in
    let j₅ = join d d₄ d₅ at m (((p ++ x) ++ s) ++ y) reset j₄ e₅ (omega arith) (omega arith) in
    j₅ ∙ ap (put_at d at) (simp append_assoc)

-- ---- the prefix and the padding byte as they are known

pub same_end : (p x s : List ℕ) (at l e : ℕ) → x ≡ p → at + (length p + (l + length (reinserted p s))) ≡ e → at + (length x + (l + length (reinserted x s))) ≡ e
same_end p x s at l e h g = ap (λ (y : List ℕ). at + (length y + (l + length (reinserted y s)))) h ∙ g

pub same_around : (p x s : List ℕ) (l r y z : ℕ) → x ≡ p → y ≡ z → around x l (reinserted x s) r y ≡ around p l (reinserted p s) r z
same_around p x s l r y z h g = ap (λ (t : List ℕ). around t l (reinserted t s) r y) h ∙ ap (around p l (reinserted p s) r) g
