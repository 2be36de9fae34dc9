-- `line::put_join`, `line::put_raw` and `line::put_seg` end, since the depth falls around the cycle. The loop's invariant: j is a link on the
-- way back from l, and the members back from j are written. Assumes nothing.
use Rattle.std.proofs.Common.{◌≡◌, ◌+◌, ◌*◌, ◌-◌, ◌≤◌, length}
use Rattle.buffer.specs.Buffer.{put_at}
use Rattle.members.specs.Links.{OnChain}
use Rattle.rows.specs.Materials.{members_in}
use Rattle.line.proofs.+putting.Given as goal

abbrev pub decreases-put_join : goal.decreases-put_join
decreases-put_join l = 3 * l.depth + 2

abbrev pub decreases-put_raw : goal.decreases-put_raw
decreases-put_raw l = 3 * l.depth

abbrev pub decreases-put_seg : goal.decreases-put_seg
decreases-put_seg l = 3 * l.depth + 1

abbrev pub invariant-put_join-loop-j : goal.invariant-put_join-loop-j
invariant-put_join-loop-j l =
    ((l.j ≤ l.l) × OnChain l.m.cells.now l.l l.j)
    × ((l.b ≡ l.at + length (members_in l.m l.j)) × (l.out ≡ put_at l.initial.out l.at (members_in l.m l.j)))

abbrev pub decreases-put_join-loop-j : goal.decreases-put_join-loop-j
decreases-put_join-loop-j l = l.l - l.j
