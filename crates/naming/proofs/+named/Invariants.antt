-- The members that are left name it just where all of them do. A group's members stand below the group, so twice the place falls.
use Rattle.std.proofs.Common.{◌≡◌, ◌≤◌, ◌+◌, ◌*◌}
use Rattle.naming.specs.Wanted.{is_wanted}
use Rattle.segments.specs.Segments.{named_among}
use Rattle.segments.specs.Pool.{chain_at}
use Rattle.naming.proofs.+named.Given as goal

abbrev pub decreases-named_at : goal.decreases-named_at
decreases-named_at l = 2 * l.i + 1

abbrev pub decreases-names : goal.decreases-names
decreases-names l = 2 * l.l

abbrev pub invariant-names-loop-j : goal.invariant-names-loop-j
invariant-names-loop-j l =
    (l.j ≤ l.l) × (named_among (is_wanted l.wanted) (chain_at l.cells l.j) ≡ named_among (is_wanted l.wanted) (chain_at l.cells l.l))

abbrev pub decreases-names-loop-j : goal.decreases-names-loop-j
decreases-names-loop-j l = l.j
