-- The measures of the cycle are the bytes and the depths that are left; the loops keep what is still to be read.
use Rattle.std.proofs.Common.{◌-◌, ◌≡◌, ℕ, ◌+◌, ◌*◌, ◌≤◌, length, take, not}
use Rattle.words.specs.Trying.{further, repeated}
use Rattle.building.specs.Reading.{separator, item_at, group_at, brace_at, inside_at, piece_at, no_group}
use Rattle.building.specs.Told.{tell_items, tell_pieces, ItemsKeep, PiecesKeep}
use Rattle.reader.proofs.+reading.Given as goal

abbrev pub decreases-further_items : goal.decreases-further_items
decreases-further_items l = 4 * (l.left + (l.to - l.from)) + 0

abbrev pub decreases-parse_argument : goal.decreases-parse_argument
decreases-parse_argument l = 4 * (l.left + (l.to - l.from)) + 0

abbrev pub decreases-parse_item : goal.decreases-parse_item
decreases-parse_item l = 4 * (l.left + (l.to - l.from)) + 3

abbrev pub decreases-parse_log_segment : goal.decreases-parse_log_segment
decreases-parse_log_segment l = 4 * (l.left + (l.to - l.from)) + 0

abbrev pub decreases-parse_nested : goal.decreases-parse_nested
decreases-parse_nested l = 4 * (l.left + (l.to - l.from)) + 2

abbrev pub decreases-parse_piece : goal.decreases-parse_piece
decreases-parse_piece l = 4 * (l.left + (l.to - l.from)) + 1

abbrev pub invariant-further_items-loop-cells : goal.invariant-further_items-loop-cells
invariant-further_items-loop-cells l =
    ((l.from ≤ l.j) × (l.j ≤ l.to) × (length l.cells ≡ length l.initial.cells))
    × ((n : ℕ) → ItemsKeep n l.link (l.left + 1) l.initial.cells l.initial.c → (take n l.cells ≡ take n l.initial.cells) × ItemsKeep n l.link (l.left + 1) l.cells l.c)
    × ((m : ℕ) → l.to - l.from ≤ m → (k : ℕ) × (l.to - l.j ≤ k) × (further (separator l.even) l.t l.to (item_at l.even l.t (group_at l.t (brace_at l.t (inside_at l.left (not l.even) l.t))) l.to) k l.j (tell_items l.c l.cells) ≡ further (separator l.even) l.t l.to (item_at l.even l.t (group_at l.t (brace_at l.t (inside_at l.left (not l.even) l.t))) l.to) m l.from (tell_items l.initial.c l.initial.cells)))

abbrev pub decreases-further_items-loop-cells : goal.decreases-further_items-loop-cells
decreases-further_items-loop-cells l = l.to - l.j

abbrev pub invariant-parse_nested-loop-i : goal.invariant-parse_nested-loop-i
invariant-parse_nested-loop-i l =
    ((l.from ≤ l.i) × (l.i ≤ l.to) × (length l.cells ≡ length l.initial.cells))
    × (take l.n l.cells ≡ take l.n l.initial.cells)
    × PiecesKeep l.n l.left l.cells l.g
    × ((k : ℕ) × (l.to - l.i ≤ k) × (repeated (piece_at l.t (brace_at l.t (inside_at l.left l.even l.t)) l.to) k l.i (tell_pieces l.g l.cells) ≡ repeated (piece_at l.t (brace_at l.t (inside_at l.left l.even l.t)) l.to) (l.to - l.from) l.from (no_group l.n)))

abbrev pub decreases-parse_nested-loop-i : goal.decreases-parse_nested-loop-i
decreases-parse_nested-loop-i l = l.to - l.i
