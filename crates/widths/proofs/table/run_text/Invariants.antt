-- `widths::table::run_text` meets its contract. The invariant: what the run over the rest gives from here is what it gives of the whole. Assumes nothing.
use mathlib.Core.Path.{◌≡◌}
use Prim.Native.Nat.{◌≤◌, ◌+◌}
use lib.ListN.{drop}
use Rattle.widths.specs.Widths.{ran}
use Rattle.widths.specs.Fitting.{Fits}
use Rattle.widths.proofs.table.run_text.Given as goal

abbrev pub invariant-loop-b : goal.invariant-loop-b
invariant-loop-b l = record {
  runs : ran l.v (drop l.b-index l.s) ≡ ran l.initial.v l.s;
  fits : Fits l.v.pending;
  few : l.v.wide ≤ l.initial.v.wide + l.b-index;
}
