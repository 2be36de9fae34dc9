-- What a call answers, by the length of the text; what is visible is no longer than the text. Assumes nothing.
use Prim.Native.Nat.{ℕ, zero, suc, ◌<◌, ◌≤◌}
use mathlib.Core.Path.{◌≡◌, ap}
use mathlib.Core.List.{List, [], ◌∷◌}
use native.Mathlib.Omega.{arith}
use lib.ListN.{length}
use borrow.Author.Tests.{lt-ltb, le-ltb}
use Rattle.refusals.specs.declared.Refusal.{Refusal}
use Rattle.colour.specs.Sequences.{sequence_length, unless_sequence, passing, visible}
use Rattle.std.specs.Prelude.{Err}
use Rattle.answer.specs.Answers.{Outcome, refused, in_room, answer_of, buffer_after}
use Rattle.visible.specs.Visible.{too_long, visible_outcome}

pub fits : (s : List ℕ) (room : ℕ) → length s < too_long → in_room room (visible s) ≡ visible_outcome s room
unfolding visible_outcome
fits s room h = rw (lt-ltb (length s) too_long h, visible_outcome)

pub too_long_lem : (s : List ℕ) (room : ℕ) → too_long ≤ length s → refused Refusal.NotASheet ≡ visible_outcome s room
unfolding visible_outcome
too_long_lem s room h = rw (le-ltb (length s) too_long h, visible_outcome)

-- an outcome that is a refusal without a length
pub refused_answer : {o : Outcome} → refused Refusal.NotASheet ≡ o → Err Refusal.NotASheet ≡ answer_of o
unfolding answer_of
refused_answer e = ap answer_of e

pub refused_buffer : (d : List ℕ) {o : Outcome} → refused Refusal.NotASheet ≡ o → d ≡ buffer_after d o
unfolding buffer_after
refused_buffer d e = ap (buffer_after d) e

passing_shorter : (n : ℕ) (s : List ℕ) → length (passing n s) ≤ length s
unfolding passing unless_sequence
passing_shorter n [] = omega arith
passing_shorter (suc n) (b ∷ s) = omega (arith, passing_shorter n s)
passing_shorter zero (b ∷ s) = by (sequence_length (b ∷ s)) (λ k. passing_shorter k s)
  where
    by : (n : ℕ) → ((k : ℕ) → length (passing k s) ≤ length s) → length (unless_sequence n b (λ k. passing k s)) ≤ length (b ∷ s)
    by zero rest = omega (arith, rest 0)
    by (suc n) rest = omega (arith, rest n)

pub visible_shorter : (s : List ℕ) → length (visible s) ≤ length s
unfolding visible
visible_shorter s = passing_shorter 0 s
