-- `file_name::write_slashed` meets its contract. Assumes nothing.
use Rattle.std.proofs.Common.{refl}
use Rattle.buffer.specs.Bytes.{bytes}
use Rattle.measure.proofs.Taking.{owes_all, first_fits, owes_rest, value_paid, buffer_paid}
use Rattle.file_name.proofs.Slashing.{slashed_more, slashed_done}
use Rattle.file_name.proofs.write_slashed.Goals as goal

pub loop-component-init : goal.loop-component-init
loop-component-init g c = rw c.into_iter-component-iterator.ensures.into_iter_gives (owes_all g.S.Sink.laws _ _ _ c.requires.fits)

pub take-rest-requires : goal.take-rest-requires
take-rest-requires g c =
    let e = slashed_more _ _ _ c.in-Some.ensures.steps in
    first_fits g.S.Sink.laws c.loop-component.invariant (bytes "/") _ e

pub take-rest-requires-in-loop-component : goal.take-rest-requires-in-loop-component
take-rest-requires-in-loop-component g c =
    let e = slashed_more _ _ _ c.in-Some.ensures.steps in
    let o = owes_rest g.S.Sink.laws c.loop-component.invariant (bytes "/") _ e _ _ c.take-rest.ensures.value c.take-rest.ensures.buffer in
    first_fits g.S.Sink.laws o c.in-Some.component.now _ refl

pub loop-component-preserved : goal.loop-component-preserved
loop-component-preserved g c =
    let e = slashed_more _ _ _ c.in-Some.ensures.steps in
    let o = owes_rest g.S.Sink.laws c.loop-component.invariant (bytes "/") _ e _ _ c.take-rest.ensures.value c.take-rest.ensures.buffer in
    owes_rest g.S.Sink.laws o c.in-Some.component.now _ refl _ _ c.take-rest-in-loop-component.ensures.value c.take-rest-in-loop-component.ensures.buffer

pub returns : goal.returns
returns g c =
    let e = slashed_done _ c.in-None.ensures.steps.0 in
    record { value = value_paid g.S.Sink.laws c.loop-component.invariant e; buffer = buffer_paid g.S.Sink.laws c.loop-component.invariant e }
