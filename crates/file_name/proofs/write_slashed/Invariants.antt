-- `file_name::write_slashed` meets its contract. The loop's invariant: the components that are left are still to be taken. Assumes nothing.
use Rattle.paths.specs.Paths.{slashed}
use Rattle.measure.proofs.Taking.{Owes}
use Rattle.file_name.proofs.write_slashed.Given as goal

abbrev pub invariant-loop-component : goal.invariant-loop-component
invariant-loop-component g l =
    let m = g.S.Sink in
    Owes m.fits m.after m.left l.initial.rest l.initial.out (slashed l.fn.left) l.rest l.out (slashed l.component-iterator)
