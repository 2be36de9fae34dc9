-- `comparisons::shared_end` meets its contract. Assumes nothing.
use Rattle.buffer.specs.Bytes.{part}
use Rattle.comparisons.proofs.Sharing.{rested_start, rested_turn, rested_stop, rest_left, rest_right, rest_other, found_alike, found_unlike}
use Rattle.comparisons.proofs.shared_end.Goals as goal

pub loop-p-init : goal.loop-p-init
loop-p-init c = rested_start _ c.args.i c.args.e c.args.j c.args.f c.requires.0.0 c.requires.1.0

pub returns-else-j-q : goal.returns-else-j-q
returns-else-j-q c = rested_stop _ c.args.i c.args.e c.args.j c.args.f c.loop-p.p c.loop-p.q c.loop-p.invariant (rest_right _ c.args.i c.loop-p.p c.args.j c.loop-p.q c.if-j-q.false)

pub returns-after-loop-p : goal.returns-after-loop-p
returns-after-loop-p c = rested_stop _ c.args.i c.args.e c.args.j c.args.f c.loop-p.p c.loop-p.q c.loop-p.invariant (rest_left _ c.args.i c.loop-p.p c.args.j c.loop-p.q c.loop-p-test.false)

pub returns-then-ne : goal.returns-then-ne
returns-then-ne c =
    let d = c.args.d.now in
    rested_stop _ c.args.i c.args.e c.args.j c.args.f c.loop-p.p c.loop-p.q c.loop-p.invariant
    (rest_other _ c.args.i c.loop-p.p c.args.j c.loop-p.q c.character_start-a.result c.character_start-b.result c.character_start-a.ensures.1 c.character_start-b.ensures.1
    (found_unlike (part c.character_start-a.result c.loop-p.p d) (part c.character_start-b.result c.loop-p.q d) c.ne.result c.ne.ensures c.if-ne.true))

pub loop-p-preserved : goal.loop-p-preserved
loop-p-preserved c =
    let d = c.args.d.now in
    rested_turn _ c.args.i c.args.e c.args.j c.args.f c.loop-p.p c.loop-p.q c.character_start-a.result c.character_start-b.result c.loop-p.invariant c.character_start-a.ensures c.character_start-b.ensures
    (found_alike (part c.character_start-a.result c.loop-p.p d) (part c.character_start-b.result c.loop-p.q d) c.ne.result c.ne.ensures c.if-ne.false)
