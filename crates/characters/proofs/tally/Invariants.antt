-- `characters::tally` meets its contract. The loop's invariant: a byte passed begins a character or was counted, and b was met or is still to come.
-- Assumes nothing.
use mathlib.Core.Path.{◌≡◌}
use mathlib.Core.Bool.{true, cond}
use Prim.Native.Nat.{◌≤◌, ◌+◌}
use lib.ListN.{drop}
use Rattle.characters.specs.Characters.{chars, has}
use Rattle.characters.proofs.tally.Given as goal

abbrev pub invariant-loop-x : goal.invariant-loop-x
invariant-loop-x l = record {
  few : l.trailing ≤ l.x-index;
  counted : l.trailing + chars l.round ≡ l.x-index + chars (drop l.x-index l.round);
  met : cond l.met true (has l.b (drop l.x-index l.round)) ≡ cond l.before true (has l.b l.round);
}
