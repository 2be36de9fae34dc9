-- `decimal::decimal` meets its contract. The loop's invariant: the digits of what is left, then those written, are all; and there are places for those left. Assumes nothing.
use Prim.Native.Nat.{◌≤◌, ◌<◌, ◌+◌, ◌^◌}
use mathlib.Core.Path.{◌≡◌}
use mathlib.Core.List.{◌++◌}
use lib.ListN.{length, drop}
use Rattle.fields.specs.Texts.{digits}
use Rattle.decimal.proofs.decimal.Given as goal

abbrev pub invariant-loop-left : goal.invariant-loop-left
invariant-loop-left l = (l.i ≤ 9) × ((l.left < 10 ^ (l.i + 1)) × ((length l.into ≡ 10) × (digits (l.i + 1) l.left ++ drop (l.i + 1) l.into ≡ digits 10 l.n)))

abbrev pub decreases-loop-left : goal.decreases-loop-left
decreases-loop-left l = l.left
