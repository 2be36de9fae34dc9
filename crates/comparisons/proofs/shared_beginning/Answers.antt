-- `comparisons::shared_beginning` meets its contract. Assumes nothing.
use Rattle.buffer.specs.Bytes.{part}
use Rattle.comparisons.proofs.Sharing.{begun_start, begun_turn, begun_stop, stop_left, stop_right, stop_other, found_alike, found_unlike}
use Rattle.comparisons.proofs.shared_beginning.Goals as goal

pub loop-p-init : goal.loop-p-init
loop-p-init c = begun_start _ c.args.i c.args.e c.args.j c.args.f c.requires.0.0 c.requires.1.0

pub returns-else-q-f : goal.returns-else-q-f
returns-else-q-f c = begun_stop _ c.args.i c.args.e c.args.j c.args.f c.loop-p.p c.loop-p.q c.loop-p.invariant (stop_right _ c.loop-p.p c.args.e c.loop-p.q c.args.f c.if-q-f.false)

pub returns-after-loop-p : goal.returns-after-loop-p
returns-after-loop-p c = begun_stop _ c.args.i c.args.e c.args.j c.args.f c.loop-p.p c.loop-p.q c.loop-p.invariant (stop_left _ c.loop-p.p c.args.e c.loop-p.q c.args.f c.loop-p-test.false)

pub returns-then-ne : goal.returns-then-ne
returns-then-ne c =
    let d = c.args.d.now in
    begun_stop _ c.args.i c.args.e c.args.j c.args.f c.loop-p.p c.loop-p.q c.loop-p.invariant
    (stop_other _ c.loop-p.p c.args.e c.loop-p.q c.args.f c.character_end-a.result c.character_end-b.result c.character_end-a.ensures.1 c.character_end-b.ensures.1
    (found_unlike (part c.loop-p.p c.character_end-a.result d) (part c.loop-p.q c.character_end-b.result d) c.ne.result c.ne.ensures c.if-ne.true))

pub loop-p-preserved : goal.loop-p-preserved
loop-p-preserved c =
    let d = c.args.d.now in
    begun_turn _ c.args.i c.args.e c.args.j c.args.f c.loop-p.p c.loop-p.q c.character_end-a.result c.character_end-b.result c.loop-p.invariant c.character_end-a.ensures c.character_end-b.ensures
    (found_alike (part c.loop-p.p c.character_end-a.result d) (part c.loop-p.q c.character_end-b.result d) c.ne.result c.ne.ensures c.if-ne.false)
