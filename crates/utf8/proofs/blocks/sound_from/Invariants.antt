-- `utf8::blocks::sound_from` meets its contract. The loop's invariant: the text is not broken up to i. Assumes nothing.
use Prim.Native.Nat.{◌≤◌, ◌-◌}
use lib.ListN.{length}
use Rattle.utf8.specs.Windows.{Told}
use Rattle.utf8.proofs.blocks.sound_from.Given as goal

abbrev pub invariant-loop-i : goal.invariant-loop-i
invariant-loop-i l = (3 ≤ l.i) × (l.i ≤ length l.s) × Told l.s l.i

abbrev pub decreases-loop-i : goal.decreases-loop-i
decreases-loop-i l = length l.s - l.i
