-- What is visible of the rest is still to be told, and each turn brings its end nearer. Assumes nothing.
use Rattle.std.proofs.Common.{length}
use Rattle.measure.proofs.Taking.{Owes}
use Rattle.colour.specs.Sequences.{visible}
use Rattle.visible.proofs.write_visible.Given as goal

abbrev pub invariant-loop-rest : goal.invariant-loop-rest
invariant-loop-rest g l = Owes g.S.Sink.fits g.S.Sink.after g.S.Sink.left l.initial.sink l.initial.out (visible l.s) l.sink l.out (visible l.rest)

abbrev pub decreases-loop-rest : goal.decreases-loop-rest
decreases-loop-rest g l = length l.rest
