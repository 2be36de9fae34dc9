-- `utf8::whole::characters_to` meets its contract. The loop's invariant: whole characters up to i. Assumes nothing.
use mathlib.Core.Path.{◌≡◌}
use mathlib.Core.List.{[]}
use Prim.Native.Nat.{◌≤◌, ◌-◌}
use lib.ListN.{length}
use Rattle.utf8.specs.Utf8.{awaited}
use Rattle.utf8.specs.Windows.{reached}
use Rattle.utf8.proofs.whole.characters_to.Given as goal

abbrev pub invariant-loop-i : goal.invariant-loop-i
invariant-loop-i l = (l.i ≤ length l.s) × (reached l.s l.i ≡ awaited [])

abbrev pub decreases-loop-i : goal.decreases-loop-i
decreases-loop-i l = length l.s - l.i
