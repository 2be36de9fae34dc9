-- The search for a closing brace, one law for each byte. Assumes nothing.
use Prim.Native.Nat.{ℕ, suc, ◌+◌, ◌-◌, ◌≤◌, ◌<◌}
use mathlib.Core.Path.{◌≡◌, sym, ap, ◌∙◌}
use mathlib.Core.Bool.{Bool, true, false}
use mathlib.Core.List.{List, [], ◌∷◌}
use native.Mathlib.Omega.{arith}
use lib.ListN.{get_or}
use borrow.Author.Tests.{eq-eqb, ne_eqb}
use Rattle.buffer.specs.Bytes.{byte, same}
use Rattle.buffer.specs.Table.{lookup}
use Rattle.buffer.proofs.Tables.{lookup_on, lookup_none}
use Rattle.std.specs.Prelude.{Some, Ok}
use Rattle.braces.specs.Braces.{Closing, Mark, opens, closes, escapes, neither, or_neither, mark_of, past_mark, closing}
use Rattle.braces.specs.Within.{ClosingWithin}

mark_opens : (b : ℕ) → b ≡ byte "{" → mark_of b ≡ opens
unfolding mark_of or_neither lookup same
mark_opens b q = ap mark_of q

mark_closes : (b : ℕ) → b ≡ byte "}" → mark_of b ≡ closes
unfolding mark_of or_neither lookup same
mark_closes b q = ap mark_of q

mark_escapes : (b : ℕ) → b ≡ byte "\\" → mark_of b ≡ escapes
unfolding mark_of or_neither lookup same
mark_escapes b q = ap mark_of q

other : (a b : ℕ) → (b ≡ a → ⊥) → same (a ∷ []) (b ∷ []) ≡ false
unfolding same
other a b h = rw (ne_eqb a b (λ e. h (sym e)), same)

mark_neither : (b : ℕ) → (b ≡ byte "{" → ⊥) → (b ≡ byte "}" → ⊥) → (b ≡ byte "\\" → ⊥) → mark_of b ≡ neither
unfolding mark_of or_neither
mark_neither b p q r =
    ap or_neither (lookup_on _ _ _ (other (byte "{") b p) ∙ lookup_on _ _ _ (other (byte "}") b q) ∙ lookup_on _ _ _ (other (byte "\\") b r) ∙ lookup_none _)

module _ (t : List ℕ) (e i k : ℕ) where
  one_more : (s : Bool) → i < e → closing t (e - i) i k s ≡ closing t (suc (e - (i + 1))) i k s
  one_more s h = let l : e - i ≡ suc (e - (i + 1)) = omega arith in ap (λ (m : ℕ). closing t m i k s) l

  step : i < e → (m : Mark) → mark_of (get_or t i 0) ≡ m → closing t (e - i) i k false ≡ past_mark (closing t (e - (i + 1)) (i + 1)) i k m
  unfolding closing
  step h m q = one_more false h ∙ ap (past_mark (closing t (e - (i + 1)) (i + 1)) i k) q

  pub closing_skips : i < e → closing t (e - i) i k true ≡ closing t (e - (i + 1)) (i + 1) k false
  unfolding closing
  closing_skips h = one_more true h

  pub closing_escapes : i < e → get_or t i 0 ≡ byte "\\" → closing t (e - i) i k false ≡ closing t (e - (i + 1)) (i + 1) k true
  unfolding past_mark
  closing_escapes h q = step h escapes (mark_escapes (get_or t i 0) q)

  pub closing_opens : i < e → get_or t i 0 ≡ byte "{" → closing t (e - i) i k false ≡ closing t (e - (i + 1)) (i + 1) (k + 1) false
  unfolding past_mark
  closing_opens h q = step h opens (mark_opens (get_or t i 0) q)

  pub closing_here : i < e → get_or t i 0 ≡ byte "}" → k ≡ 0 → closing t (e - i) i k false ≡ Ok (Some i)
  unfolding past_mark
  closing_here h q z = step h closes (mark_closes (get_or t i 0) q) ∙ rw (eq-eqb k 0 z, past_mark)

  pub closing_closes : i < e → get_or t i 0 ≡ byte "}" → (k ≡ 0 → ⊥) → closing t (e - i) i k false ≡ closing t (e - (i + 1)) (i + 1) (k - 1) false
  unfolding past_mark
  closing_closes h q z = step h closes (mark_closes (get_or t i 0) q) ∙ rw (ne_eqb k 0 z, past_mark)

  pub closing_passes : i < e → (get_or t i 0 ≡ byte "\\" → ⊥) → (get_or t i 0 ≡ byte "{" → ⊥) → (get_or t i 0 ≡ byte "}" → ⊥)
      → closing t (e - i) i k false ≡ closing t (e - (i + 1)) (i + 1) k false
  unfolding past_mark
  closing_passes h r p q = step h neither (mark_neither (get_or t i 0) p q r)

  pub closing_end : (s : Bool) → e ≤ i → closing t (e - i) i k s ≡ closing t 0 i k s
  closing_end s h = let l : e - i ≡ 0 = omega arith in ap (λ (m : ℕ). closing t m i k s) l

pub closing_bounds : (from to : ℕ) (f : Closing) (c : ℕ) → f ≡ Ok (Some c) → ClosingWithin from to f → (from ≤ c) × (c < to)
unfolding ClosingWithin
closing_bounds from to f c q w = rw q at w
