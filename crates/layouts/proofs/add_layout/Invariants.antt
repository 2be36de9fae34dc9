-- `layouts::add_layout` meets its contract. The loop's invariant: what is measured and what is left are the whole. Assumes nothing.
use Prim.Native.Nat.{◌-◌, ◌≤◌}
use mathlib.Core.Path.{◌≡◌}
use Rattle.measure.specs.Measures.{grown, Small}
use Rattle.layouts.proofs.Laying.{left_from}
use Rattle.layouts.proofs.add_layout.Given as goal

abbrev pub invariant-loop-k : goal.invariant-loop-k
invariant-loop-k l = (l.k ≤ 17) × (Small l.b × (grown l.b (left_from l.s l.d l.from l.c l.k) ≡ grown l.initial.b (left_from l.s l.d l.from l.c 0)))
