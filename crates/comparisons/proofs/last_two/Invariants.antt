-- `comparisons::last_two` meets its contract. Assumes nothing.
use Prim.Native.Nat.{◌-◌}
use Rattle.comparisons.proofs.Walking.{Walked}
use Rattle.comparisons.proofs.last_two.Given as goal

abbrev pub invariant-loop-next : goal.invariant-loop-next
invariant-loop-next l = Walked l.d l.from l.to l.left.from l.left.to l.right.from l.right.to l.next

abbrev pub decreases-loop-next : goal.decreases-loop-next
decreases-loop-next l = l.to - l.next
