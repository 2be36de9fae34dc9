-- `members::forward` meets its contract. The loop's invariant: the row is filled for the segments below i. Assumes nothing.
use mathlib.Core.Path.{◌≡◌}
use Rattle.members.specs.Links.{links_forward}
use Rattle.members.proofs.forward.Given as goal

abbrev pub invariant-loop-i : goal.invariant-loop-i
invariant-loop-i l = l.links ≡ links_forward l.cells l.initial.links l.i
