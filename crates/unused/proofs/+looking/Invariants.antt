-- Braces, contents, items, groups and pieces, which call each other in a cycle: each call has a depth less or a byte less before it, or goes from a content to
-- an item, a group, a piece, a brace. Assumes nothing.
use Rattle.std.proofs.Common.{◌-◌, ◌≡◌, not, ◌+◌, ◌≤◌, ℕ, ◌*◌}
use Rattle.building.specs.Reading.{separator}
use Rattle.words.specs.Trying.{further, listed, repeated}
use Rattle.unused.specs.Looking.{place_told, tell_look, no_sight, look_item, look_piece, look_brace_in, look_group_in}
use Rattle.unused.proofs.+looking.Given as goal

abbrev pub decreases-look_brace : goal.decreases-look_brace
decreases-look_brace l = 4 * (l.left + (l.to - l.from))

abbrev pub decreases-look_content : goal.decreases-look_content
decreases-look_content l = 4 * (l.left + (l.to - l.from))

abbrev pub decreases-look_group : goal.decreases-look_group
decreases-look_group l = 4 * (l.left + (l.to - l.from)) + 2

abbrev pub decreases-look_item : goal.decreases-look_item
decreases-look_item l = 4 * (l.left + (l.to - l.from)) + 3

abbrev pub decreases-look_piece : goal.decreases-look_piece
decreases-look_piece l = 4 * (l.left + (l.to - l.from)) + 1

abbrev pub invariant-look_content-loop-c : goal.invariant-look_content-loop-c
invariant-look_content-loop-c l =
    ((l.from ≤ l.c.end) × (l.c.end ≤ l.to))
    × ((m : ℕ) × (l.to - l.c.end ≤ m)
    × (further (separator l.even) l.t l.to (look_item l.even l.t (look_group_in (l.left - 1) (not l.even) l.t) l.to) m l.c.end (tell_look l.c)
    ≡ listed (separator l.even) l.t l.to (look_item l.even l.t (look_group_in (l.left - 1) (not l.even) l.t) l.to) l.from no_sight))

abbrev pub decreases-look_content-loop-c : goal.decreases-look_content-loop-c
decreases-look_content-loop-c l = l.to - l.c.end

abbrev pub invariant-look_group-loop-i : goal.invariant-look_group-loop-i
invariant-look_group-loop-i l =
    ((l.from ≤ l.i) × (l.i ≤ l.to))
    × ((n : ℕ) × (l.to - l.i ≤ n)
    × (repeated (look_piece l.t (look_brace_in l.left l.even l.t) l.to) n l.i (place_told l.unused) ≡ look_group_in l.left l.even l.t l.from l.to))

abbrev pub decreases-look_group-loop-i : goal.decreases-look_group-loop-i
decreases-look_group-loop-i l = l.to - l.i
