-- `visible::put_visible` meets its contract. Assumes nothing.
use Rattle.std.proofs.Common.{◌≤◌, ap, sym, ◌∙◌, length, arith}
use Rattle.buffer.proofs.Fitting.{written_fits, written_not}
use Rattle.measure.specs.declared.sink.Count.{Count}
use Rattle.measure.specs.declared.sink.Place.{Place}
use Rattle.colour.specs.Sequences.{visible}
use Rattle.visible.proofs.Outcomes.{visible_shorter}
use Rattle.visible.proofs.put_visible.Goals as goal
use Rattle.visible.proofs.put_visible.Goals.{then-out-s+else-out-n, else-out-s}

pub write_visible-n-requires : goal.write_visible-n-requires
write_visible-n-requires c = omega (arith, visible_shorter c.args.s.now)

pub returns-then-out-n : goal.returns-then-out-n
returns-then-out-n c =
    let n = ap (λ (n : Count). n.0) c.write_visible-n.ensures.value in
    (omega (arith, n), sym (written_not c.args.out.now (visible c.args.s.now) (omega (arith, n))))

pub write_visible-requires : goal.write_visible-requires
write_visible-requires c = elim c.if-out-s.branch [
  | then-out-s+else-out-n w ↦ omega (arith, ap (λ (n : Count). n.0) w.write_visible-n.ensures.value, w.if-out-n.false)
  | else-out-s w ↦ omega (arith, visible_shorter c.args.s.now, w.if-out-s.false)
]

pub returns : goal.returns
returns c =
    let room : length (visible c.args.s.now) ≤ length c.args.out.now = elim c.if-out-s.branch [
      | then-out-s+else-out-n w ↦ omega (arith, ap (λ (n : Count). n.0) w.write_visible-n.ensures.value, w.if-out-n.false)
      | else-out-s w ↦ omega (arith, visible_shorter c.args.s.now, w.if-out-s.false)
    ] in
    let n = ap (λ (at : Place). at.0) c.write_visible.ensures.value in
    (omega (arith, n), c.write_visible.ensures.buffer ∙ sym (written_fits c.args.out.now (visible c.args.s.now) room))
