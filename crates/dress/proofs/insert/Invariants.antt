-- `dress::insert` meets its contract. The loop's invariant: the text is half way (`Halfway`). Assumes nothing.
use mathlib.Core.List.{◌++◌}
use Prim.Native.Nat.{◌-◌}
use lib.ListN.{take}
use Rattle.buffer.specs.Bytes.{part}
use Rattle.colour.specs.Sequences.{reinserted}
use Rattle.dress.proofs.Moving.{Halfway}
use Rattle.dress.proofs.insert.Given as goal

abbrev pub invariant-loop-w : goal.invariant-loop-w
invariant-loop-w l = Halfway l.initial.out l.p (take l.o l.initial.out ++ reinserted l.p (part l.i l.e l.initial.out)) l.e l.out l.w l.r

abbrev pub decreases-loop-w : goal.decreases-loop-w
decreases-loop-w l = l.e - l.r
