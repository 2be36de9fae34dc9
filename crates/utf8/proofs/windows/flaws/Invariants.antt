-- `utf8::windows::flaws` meets its contract. The loop's invariant: the places passed are judged. Assumes nothing.
use Prim.Native.Nat.{◌+◌}
use Rattle.utf8.specs.Windows.{Checked}
use Rattle.utf8.proofs.windows.flaws.Given as goal

abbrev pub invariant-loop-k : goal.invariant-loop-k
invariant-loop-k l = Checked l.s (l.from + 3) (l.from + l.k + 3) l.worst
