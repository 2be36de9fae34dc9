-- The invariant of `take_until_unbalanced`: the search goes on from here. Assumes nothing.
use Rattle.braces.specs.Braces.{closing}
use Prim.Native.Nat.{◌-◌, ◌≤◌}
use mathlib.Core.Path.{◌≡◌}
use mathlib.Core.Bool.{false}
use Rattle.braces.proofs.take_until_unbalanced.Given as goal

abbrev pub invariant-loop-i : goal.invariant-loop-i
invariant-loop-i l = record {
  few : l.open ≤ l.i;
  onward : closing l.t (l.to - l.i) l.i l.open l.escaped ≡ closing l.t (l.to - l.from) l.from 0 false;
}
