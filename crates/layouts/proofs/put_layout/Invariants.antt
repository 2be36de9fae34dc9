-- `layouts::put_layout` meets its contract. The loop's invariant: what is written and what is left are the whole. Assumes nothing.
use Prim.Native.Nat.{◌+◌, ◌-◌, ◌≤◌}
use mathlib.Core.Path.{◌≡◌}
use lib.ListN.{length}
use Rattle.buffer.specs.Buffer.{put_at}
use Rattle.layouts.proofs.Laying.{left_from}
use Rattle.layouts.proofs.put_layout.Given as goal

abbrev pub invariant-loop-k : goal.invariant-loop-k
invariant-loop-k l = ((l.k ≤ 17) × ((l.at ≤ l.b) × (length l.out ≡ length l.initial.out)))
    × ((l.b + length (left_from l.s l.d l.from l.c l.k) ≡ l.at + length (left_from l.s l.d l.from l.c 0)) × (put_at l.out l.b (left_from l.s l.d l.from l.c l.k) ≡ put_at l.initial.out l.at (left_from l.s l.d l.from l.c 0)))
