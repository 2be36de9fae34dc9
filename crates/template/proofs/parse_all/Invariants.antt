-- The top level so far: its segments, and where the reading goes on. Assumes nothing.
use Rattle.template.proofs.Topped.{top_of}
use Rattle.words.specs.Trying.{repeated}
use Rattle.segments.specs.Segments.{none}
use Rattle.building.specs.Reading.{top_at}
use Rattle.template.specs.Parsing.{ReadKeeps}
use Prim.Native.Nat.{ℕ, ◌-◌, ◌≤◌}
use mathlib.Core.Path.{◌≡◌}
use lib.ListN.{length}
use Rattle.template.proofs.parse_all.Given as goal

abbrev pub invariant-loop-i : goal.invariant-loop-i
invariant-loop-i l = ((l.i ≤ length l.t) × (length l.cells ≡ length l.initial.cells)) × ReadKeeps l.cells l.n × ((k : ℕ) × (length l.t - l.i ≤ k) × (repeated (top_at l.t (length l.t)) k l.i (top_of l.cells l.n) ≡ repeated (top_at l.t (length l.t)) (length l.t) 0 (record { segments = none; made = 0 })))

abbrev pub decreases-loop-i : goal.decreases-loop-i
decreases-loop-i l = length l.t - l.i
