-- `visible::write_visible` meets its contract. Assumes nothing.
use Rattle.std.proofs.Common.{rules, ◌≡◌, ◌≢◌, [], length, refl}
use Rattle.measure.proofs.Taking.{owes_all, first_fits, owes_rest, value_paid, buffer_paid}
use Rattle.colour.specs.Sequences.{visible}
use Rattle.visible.proofs.Stretches.{walked, nearer, visible_none}
use Rattle.visible.proofs.write_visible.Goals as goal

pub loop-rest-init : goal.loop-rest-init
loop-rest-init g c = owes_all g.S.Sink.laws _ _ _ c.requires

pub take-sink-requires : goal.take-sink-requires
take-sink-requires g c = first_fits g.S.Sink.laws c.loop-rest.invariant _ _ c.stretch_len-n.ensures.s_value

pub loop-rest-smaller : goal.loop-rest-smaller
loop-rest-smaller g c =
    let h : length c.loop-rest.rest.now ≢ 0 = search rules in
    nearer _ _ _ _ h c.stretch_len-n.ensures.within c.stretch_len-n.ensures.before_sequence refl c.past_sequence-rest.ensures

pub loop-rest-preserved : goal.loop-rest-preserved
loop-rest-preserved g c =
    let v = walked _ _ _ _ c.stretch_len-n.ensures.s_value refl c.past_sequence-rest.ensures in
    owes_rest g.S.Sink.laws c.loop-rest.invariant _ _ v _ _ c.take-sink.ensures.value c.take-sink.ensures.buffer

pub returns : goal.returns
returns g c =
    let h : length c.loop-rest.rest.now ≡ 0 = search rules in
    let e : visible c.loop-rest.rest.now ≡ [] = visible_none _ h in
    record { value = value_paid g.S.Sink.laws c.loop-rest.invariant e; buffer = buffer_paid g.S.Sink.laws c.loop-rest.invariant e }
