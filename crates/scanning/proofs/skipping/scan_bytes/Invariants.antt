-- `scanning::skipping::scan_bytes` meets its contract. The invariant: the search of the rest from here is the search of the whole. Assumes nothing.
use mathlib.Core.Path.{◌≡◌}
use Prim.Native.Nat.{◌≤◌, ◌+◌}
use lib.ListN.{length, drop}
use Rattle.colour.specs.Machine.{scan}
use Rattle.scanning.proofs.skipping.scan_bytes.Given as goal

abbrev pub invariant-loop-b : goal.invariant-loop-b
invariant-loop-b l = (l.b-index ≤ length l.s) × ((scan l.u (drop l.b-index l.s) ≡ scan l.initial.u l.s) × ((l.u.sequences + l.u.held ≤ l.initial.u.sequences + l.initial.u.held + l.b-index) × (l.u.resets ≤ l.initial.u.resets + l.b-index)))
