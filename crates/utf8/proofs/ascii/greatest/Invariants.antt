-- `utf8::ascii::greatest` meets its contract. The loop's invariant: the greatest of the bytes passed. Assumes nothing.
use mathlib.Core.Path.{◌≡◌}
use Prim.Native.Nat.{max}
use lib.ListN.{drop}
use Rattle.utf8.specs.Windows.{top_of}
use Rattle.utf8.proofs.ascii.greatest.Given as goal

abbrev pub invariant-loop-b : goal.invariant-loop-b
invariant-loop-b l = max l.top (top_of (drop l.b-index l.s)) ≡ top_of l.s
