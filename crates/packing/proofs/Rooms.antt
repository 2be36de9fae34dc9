-- Answers by the room that there is. Assumes nothing.
use Prim.Native.Nat.{ℕ, ◌≤◌, ◌<◌, ◌^◌}
use mathlib.Core.Path.{◌≡◌}
use mathlib.Core.Bool.{Bool, true, false}
use native.Mathlib.Omega.{arith}
use borrow.Author.Tests.{le-leb, lt-leb}
use lib.Dec.{leb}
use Rattle.refusals.specs.declared.Refusal.{Refusal}
use Rattle.refusals.specs.Numbers.{value_with}
use Rattle.std.specs.Prelude.{Result, Ok, Err}
use Rattle.packing.specs.Packing.{answer_in, Packable}

pub in_whole : (room n : ℕ) → n ≤ room → Ok n ≡ answer_in room n
unfolding answer_in
in_whole room n h = rw (le-leb n room h, answer_in)

pub in_short : (room n : ℕ) → room < n → Err (Refusal.LineTooLong n) ≡ answer_in room n
unfolding answer_in
in_short room n h = rw (lt-leb n room h, answer_in)

pub packable_in : (room n : ℕ) → n < 2 ^ 56 → Packable (answer_in room n)
unfolding answer_in Packable
packable_in room n h = by (leb n room)
  where
    by : (b : Bool) → Packable (elim b [ true ↦ Ok n | false ↦ Err (Refusal.LineTooLong n) ])
    by true = h
    by false = h

pub packable_small : (r : Refusal) → value_with r ≤ 1024 → Packable (Err r)
unfolding Packable
packable_small r h = omega (arith, h)

pub packable_refused : (r : Refusal) → value_with r ≡ 0 → Packable (Err r)
unfolding Packable
packable_refused r h = omega (arith, h)
