-- Whole sequences: what is one whatever came before it. Assumes nothing.
use mathlib.Core.Path.{◌≡◌, refl, ap, sym, ◌∙◌}
use mathlib.Core.List.{List, []}
use Prim.Native.Nat.{ℕ, ◌+◌}
use lib.ListN.{length}
use Rattle.utf8.specs.Utf8.{within}
use Rattle.runs.specs.Runs.{digit}
use Rattle.widths.specs.declared.Wides.{Wides}
use Rattle.colour.specs.declared.State.{State}
use Rattle.colour.specs.declared.State.TheVariants.{Outside}
use Rattle.colour.specs.declared.Scan.{Scan}
use Rattle.colour.specs.Sequences.{reset, in_sequence}
use Rattle.colour.specs.Machine.{act_in, act_of, state_after, scan, resting}
use Rattle.colour.specs.Seeing.{let_go, seen_after}
use Rattle.colour.proofs.Scanning.{scan_state}

-- whatever came before, p is one whole sequence and no reset, and nothing of it is seen: what was held is let go by its first byte
pub record Whole (p : List ℕ) : Type 0 where
  pub scanned : (t : Scan) → scan t p ≡ resting (t.sequences + length p) t.resets
  pub silent : (t : Scan) (w : Wides) → seen_after t w p ≡ let_go t.held w

-- after a whole sequence no sequence is open, whatever came before
pub state_whole : (p : List ℕ) → Whole p → (q : State) → state_after q p ≡ Outside
state_whole p w q =
    let t : Scan = record { state = q; held = 0; sequences = 0; resets = 0 } in
    sym (scan_state p t) ∙ ap (λ (u : Scan). u.state) (w.scanned t)

-- what may be put before a text: nothing, or one whole sequence
pub data WholeOrNone : List ℕ → Type 0 where
  none : WholeOrNone []
  one : {p : List ℕ} → Whole p → WholeOrNone p

-- the reset, whatever came before
pub scan_reset : (t : Scan) → scan t reset ≡ resting (t.sequences + 4) (t.resets + 1)
unfolding act_of act_in in_sequence digit within
scan_reset t = refl

pub seen_reset : (t : Scan) (w : Wides) → seen_after t w reset ≡ let_go t.held w
unfolding act_of act_in in_sequence digit within
seen_reset t w = refl
