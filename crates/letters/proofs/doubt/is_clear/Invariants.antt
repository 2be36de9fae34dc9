-- `letters::doubt::is_clear` meets its contract. The loop's invariant: no byte passed leaves a doubt. Assumes nothing.
use Prim.Native.Nat.{◌-◌, ◌≤◌}
use Rattle.letters.specs.Doubting.{Clear}
use Rattle.letters.proofs.doubt.is_clear.Given as goal

abbrev pub invariant-loop-i : goal.invariant-loop-i
invariant-loop-i l = (l.i ≤ l.last) × Clear l.t 0 l.i

abbrev pub decreases-loop-i : goal.decreases-loop-i
decreases-loop-i l = l.last - l.i
