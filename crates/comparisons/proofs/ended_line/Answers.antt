-- `comparisons::ended_line` meets its contract. Assumes nothing.
use borrow.Author.Rules.{rules}
use native.Mathlib.Omega.{arith}
use Prim.Native.Nat.{ℕ, ◌+◌, ◌-◌, ◌≤◌, ◌<◌}
use mathlib.Core.Path.{◌≡◌, refl, sym, ap, ◌∙◌}
use mathlib.Core.List.{List, [], ◌∷◌, ◌++◌}
use lib.ListN.{length, get_or}
use Rattle.buffer.proofs.Parts.{part_snoc}
use Rattle.buffer.specs.Bytes.{part}
use Rattle.comparisons.proofs.Parts.{part_none}
use Rattle.comparisons.proofs.Lining.{trimmed_return, trimmed_other, trimmed_nil}
use Rattle.comparisons.specs.Places.{trimmed}
use Rattle.comparisons.proofs.ended_line.Goals as goal
use Rattle.comparisons.proofs.ended_line.Goals.{else-i-k-via-then-i-k+else-d-k-eq13, else-i-k-via-else-i-k}

none_before : (d : List ℕ) (i k : ℕ) → i ≡ k → part i k d ≡ trimmed (part i k d)
none_before d i k e = let z = part_none d i k (omega arith) in z ∙ sym (ap trimmed z ∙ trimmed_nil)

snoc_before : (d : List ℕ) (i k : ℕ) → i ≤ k → (i ≡ k → ⊥) → k < length d → part i k d ≡ part i (k - 1) d ++ get_or d (k - 1) 0 ∷ []
snoc_before d i k h n g =
    let e : k ≡ (k - 1) + 1 = omega arith in
    ap (λ (j : ℕ). part i j d) e ∙ part_snoc d i (k - 1) (omega arith) (omega arith)

return_before : (d : List ℕ) (i k : ℕ) → i ≤ k → (i ≡ k → ⊥) → k < length d → get_or d (k - 1) 0 ≡ 0x0D → part i (k - 1) d ≡ trimmed (part i k d)
return_before d i k h n g e = sym (ap trimmed (snoc_before d i k h n g) ∙ trimmed_return (part i (k - 1) d) (get_or d (k - 1) 0) e)

other_before : (d : List ℕ) (i k : ℕ) → i ≤ k → (i ≡ k → ⊥) → k < length d → (get_or d (k - 1) 0 ≡ 0x0D → ⊥) → part i k d ≡ trimmed (part i k d)
other_before d i k h n g e = let s = snoc_before d i k h n g in s ∙ sym (ap trimmed s ∙ trimmed_other (part i (k - 1) d) (get_or d (k - 1) 0) e)

pub returns-then-d-k-eq13 : goal.returns-then-d-k-eq13
returns-then-d-k-eq13 c = (refl, ((omega (arith, c.if-i-k.true), search rules), return_before _ c.args.i c.args.k c.requires.0 (λ e. omega (arith, c.if-i-k.true)) c.requires.1 c.if-d-k-eq13.true))

pub returns : goal.returns
returns c =
    let e : part c.args.i c.args.k c.args.d.now ≡ trimmed (part c.args.i c.args.k c.args.d.now) =
    elim c.else-i-k.branch [
      | else-i-k-via-then-i-k+else-d-k-eq13 w ↦ other_before _ c.args.i c.args.k c.requires.0 (λ e. omega (arith, w.if-i-k.true)) c.requires.1 w.if-d-k-eq13.false
      | else-i-k-via-else-i-k w ↦ none_before _ c.args.i c.args.k (omega (arith, c.requires.0, w.if-i-k.false))
    ] in
    (refl, ((search rules, search rules), e))
