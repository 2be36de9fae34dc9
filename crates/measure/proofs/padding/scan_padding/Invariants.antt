-- `measure::padding::scan_padding` meets its contract. The invariant: the search of the padding left from here is that of all of it. Assumes nothing.
use mathlib.Core.Path.{◌≡◌}
use Prim.Native.Nat.{◌≤◌, ◌+◌, ◌-◌}
use lib.ListN.{replicate}
use Rattle.colour.specs.Machine.{scan}
use Rattle.measure.proofs.padding.scan_padding.Given as goal

abbrev pub invariant-loop : goal.invariant-loop
invariant-loop l = (l.counter ≤ l.n) × ((scan l.u (replicate (l.n - l.counter) l.b) ≡ scan l.initial.u (replicate l.n l.b)) × ((l.u.sequences + l.u.held ≤ l.initial.u.sequences + l.initial.u.held + l.counter) × (l.u.resets ≤ l.initial.u.resets + l.counter)))
