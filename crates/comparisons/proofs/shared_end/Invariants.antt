-- `comparisons::shared_end` meets its contract. Assumes nothing.
use Rattle.comparisons.proofs.Sharing.{Rested}
use Rattle.comparisons.proofs.shared_end.Given as goal

abbrev pub invariant-loop-p : goal.invariant-loop-p
invariant-loop-p l = Rested l.d l.i l.e l.j l.f l.p l.q

abbrev pub decreases-loop-p : goal.decreases-loop-p
decreases-loop-p l = l.p
