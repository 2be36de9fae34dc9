-- `measure::seeing::see_bytes` meets its contract. The invariant: what is seen of the rest from here is what is seen of the whole. Assumes nothing.
use mathlib.Core.Path.{◌≡◌}
use Prim.Native.Nat.{◌≤◌, ◌+◌}
use lib.ListN.{length, drop}
use Rattle.widths.specs.Fitting.{Fits}
use Rattle.colour.specs.Seeing.{seen_after}
use Rattle.measure.proofs.seeing.see_bytes.Given as goal

abbrev pub invariant-loop-b : goal.invariant-loop-b
invariant-loop-b l = (l.b-index ≤ length l.s)
    × ((seen_after l.u l.v (drop l.b-index l.s) ≡ seen_after l.initial.u l.initial.v l.s)
    × ((Fits l.v.pending × (l.v.wide ≤ l.initial.v.wide + l.b-index)) × ((l.u.sequences + l.u.held ≤ l.initial.u.sequences + l.initial.u.held + l.b-index) × (l.u.resets ≤ l.initial.u.resets + l.b-index))))
