-- `dress::insert` meets its contract. The loop's invariant: the text is half way (`Halfway`). Assumes nothing.
use mathlib.Core.Path.{refl, sym, ◌∙◌}
use native.Mathlib.Omega.{arith}
use Rattle.buffer.specs.Bytes.{part}
use Rattle.colour.specs.Sequences.{reset, reinserted}
use Rattle.dress.proofs.Comparing.{starts_told}
use Rattle.dress.proofs.Moving.{not_past, some_left, moved_byte, reset_fits, moved_reset, reached}
use Rattle.dress.proofs.insert.Goals as goal

pub loop-w-init : goal.loop-w-init
loop-w-init c = record { inside = c.requires.1.0; long = refl; left = c.requires.0; unread = refl; ends = c.requires.1.1; written = refl }

pub put-v-requires : goal.put-v-requires
put-v-requires c =
    let k = c.loop-w.invariant in
    omega (arith, c.loop-w.invariant.inside, c.loop-w.invariant.long, reset_fits k (starts_told reset (part c.loop-w.r c.args.e c.loop-w.out) c.starts_with.result _ c.starts_with.ensures.value c.if-starts_with.true))

pub put-w-requires : goal.put-w-requires
put-w-requires c =
    let k = c.loop-w.invariant in
    omega (arith, c.loop-w.invariant.inside, c.loop-w.invariant.long, c.put-v.ensures.0, c.put-v.auto.dst, reset_fits k (starts_told reset (part c.loop-w.r c.args.e c.loop-w.out) c.starts_with.result _ c.starts_with.ensures.value c.if-starts_with.true))

pub overflow_add-r : goal.overflow_add-r
overflow_add-r c = omega (arith, c.ranges.e, reset_fits c.loop-w.invariant (starts_told reset (part c.loop-w.r c.args.e c.loop-w.out) c.starts_with.result _ c.starts_with.ensures.value c.if-starts_with.true))

pub loop-w-smaller-then-starts_with : goal.loop-w-smaller-then-starts_with
loop-w-smaller-then-starts_with c = omega (arith, reset_fits c.loop-w.invariant (starts_told reset (part c.loop-w.r c.args.e c.loop-w.out) c.starts_with.result _ c.starts_with.ensures.value c.if-starts_with.true))

pub loop-w-preserved-then-starts_with : goal.loop-w-preserved-then-starts_with
loop-w-preserved-then-starts_with c =
    moved_reset c.loop-w.invariant (starts_told reset (part c.loop-w.r c.args.e c.loop-w.out) c.starts_with.result _ c.starts_with.ensures.value c.if-starts_with.true)
    c.put-v.new.dst c.put-w.new.dst c.put-v.result c.put-w.result c.put-v.ensures c.put-w.ensures (c.put-w.auto.dst ∙ c.put-v.auto.dst)

pub bounds-out-r : goal.bounds-out-r
bounds-out-r c =
    let k = c.loop-w.invariant in
    omega (arith, c.loop-w.invariant.inside, c.loop-w.invariant.long, some_left k c.loop-w-test.true)

pub bounds-out-w : goal.bounds-out-w
bounds-out-w c =
    let k = c.loop-w.invariant in
    omega (arith, c.loop-w.invariant.inside, c.loop-w.invariant.long, c.loop-w-test.true, some_left k c.loop-w-test.true)

pub overflow_add-w : goal.overflow_add-w
overflow_add-w c = omega (arith, c.ranges.e, c.loop-w-test.true, some_left c.loop-w.invariant c.loop-w-test.true)

pub overflow_add-r-else-starts_with : goal.overflow_add-r-else-starts_with
overflow_add-r-else-starts_with c = omega (arith, c.ranges.e, some_left c.loop-w.invariant c.loop-w-test.true)

pub loop-w-smaller : goal.loop-w-smaller
loop-w-smaller c = omega (arith, some_left c.loop-w.invariant c.loop-w-test.true)

pub loop-w-preserved : goal.loop-w-preserved
loop-w-preserved c = moved_byte c.loop-w.invariant c.loop-w-test.true (starts_told reset (part c.loop-w.r c.args.e c.loop-w.out) c.starts_with.result _ c.starts_with.ensures.value c.if-starts_with.false)

pub returns : goal.returns
returns c =
    let k = c.loop-w.invariant in
    reached (reinserted c.args.p.now (part c.args.i c.args.e c.args.out.now)) c.args.o k (sym c.requires.1.1) (omega (arith, not_past k, c.loop-w-test.false))
