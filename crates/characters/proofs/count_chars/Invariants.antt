-- `characters::count_chars` meets its contract. The loop's invariant: a byte passed begins a character or was counted, and b was met or is
-- still to come. Assumes nothing.
use mathlib.Core.Path.{◌≡◌}
use mathlib.Core.Bool.{true, cond}
use Prim.Native.Nat.{◌≤◌, ◌+◌}
use lib.ListN.{length}
use Rattle.characters.specs.Characters.{chars, has}
use Rattle.characters.proofs.count_chars.Given as goal

abbrev pub invariant-loop-round : goal.invariant-loop-round
invariant-loop-round l = record {
  few : l.trailing + length l.rest ≤ length l.s;
  counted : l.trailing + chars l.s + length l.rest ≡ length l.s + chars l.rest;
  met : cond l.met true (has l.b l.rest) ≡ has l.b l.s;
}

abbrev pub decreases-loop-round : goal.decreases-loop-round
decreases-loop-round l = length l.rest
