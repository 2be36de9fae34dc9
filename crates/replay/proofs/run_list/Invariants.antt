-- Nothing is counted more often than there were turns. Assumes nothing.
use Rattle.std.proofs.Common.{◌≤◌}
use Rattle.replay.proofs.run_list.Given as goal

abbrev pub invariant-loop-turn : goal.invariant-loop-turn
invariant-loop-turn g l = (l.t.run ≤ l.turn) × ((l.t.parted ≤ l.turn) × (l.t.skipped ≤ l.turn))
