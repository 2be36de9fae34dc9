-- `comparisons::head::write_lines` meets its contract. The loop's invariant: the lines from place k on are still to be taken. Assumes nothing.
use Rattle.std.proofs.Common.{◌≤◌, ◌-◌}
use Rattle.measure.proofs.Taking.{Owes}
use Rattle.comparisons.proofs.Heading.{lines_from}
use Rattle.comparisons.proofs.head.write_lines.Given as goal

abbrev pub invariant-loop-k : goal.invariant-loop-k
invariant-loop-k g l = record {
  inside : l.k ≤ l.e;
  owes : let m = g.S.Sink in Owes m.fits m.after m.left l.initial.rest l.initial.out (lines_from l.i l.e l.d) l.rest l.out (lines_from l.k l.e l.d);
}

abbrev pub decreases-loop-k : goal.decreases-loop-k
decreases-loop-k g l = l.e - l.k
