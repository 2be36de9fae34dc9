-- `number_up_to` meets its contract: the loop keeps what the digits so far and those from here on say. Assumes nothing.
use Prim.Native.Nat.{◌≤◌}
use mathlib.Core.Path.{◌≡◌}
use lib.ListN.{drop}
use Rattle.runs.specs.Runs.{decimal}
use Rattle.runs.proofs.numbers.number_up_to.Given as goal

abbrev pub invariant-loop-b : goal.invariant-loop-b
invariant-loop-b l = (l.n ≤ l.most) × (decimal l.n (drop l.b-index l.digits) ≡ decimal 0 l.digits)
