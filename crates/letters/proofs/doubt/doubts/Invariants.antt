-- `letters::doubt::doubts` meets its contract. The loop's invariant: the bytes passed were looked at. Assumes nothing.
use Prim.Native.Nat.{◌+◌}
use Rattle.letters.specs.Doubting.{Looked}
use Rattle.letters.proofs.doubt.doubts.Given as goal

abbrev pub invariant-loop-k : goal.invariant-loop-k
invariant-loop-k l = Looked l.t l.from (l.from + l.k) l.worst
