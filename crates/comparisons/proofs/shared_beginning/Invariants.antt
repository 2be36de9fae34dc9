-- `comparisons::shared_beginning` meets its contract. Assumes nothing.
use Prim.Native.Nat.{◌-◌}
use Rattle.comparisons.proofs.Sharing.{Begun}
use Rattle.comparisons.proofs.shared_beginning.Given as goal

abbrev pub invariant-loop-p : goal.invariant-loop-p
invariant-loop-p l = Begun l.d l.i l.e l.j l.f l.p l.q

abbrev pub decreases-loop-p : goal.decreases-loop-p
decreases-loop-p l = l.e - l.p
