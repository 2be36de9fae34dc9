-- `rows::Material::join_of`, `raw_of` and `seg_of` end, since the depth falls around the cycle. The loop's invariant: j is a link on the way
-- back from l, and the members back from j are measured. Assumes nothing.
use Rattle.std.proofs.Common.{◌≡◌, ◌+◌, ◌*◌, ◌-◌, ◌≤◌}
use Rattle.measure.specs.Measures.{grown}
use Rattle.members.specs.Links.{OnChain}
use Rattle.rows.specs.Materials.{members_in}
use Rattle.rows.proofs.Material.+measuring.Given as goal

abbrev pub decreases-join_of : goal.decreases-join_of
decreases-join_of l = 3 * l.depth + 2

abbrev pub decreases-raw_of : goal.decreases-raw_of
decreases-raw_of l = 3 * l.depth

abbrev pub decreases-seg_of : goal.decreases-seg_of
decreases-seg_of l = 3 * l.depth + 1

abbrev pub invariant-join_of-loop-j : goal.invariant-join_of-loop-j
invariant-join_of-loop-j l = ((l.j ≤ l.l) × OnChain l.self.cells.now l.l l.j) × (l.b ≡ grown l.initial.b (members_in l.self l.j))

abbrev pub decreases-join_of-loop-j : goal.decreases-join_of-loop-j
decreases-join_of-loop-j l = l.l - l.j
