-- `comparisons::last_two` meets its contract. Assumes nothing.
use native.Mathlib.Omega.{arith}
use Rattle.comparisons.proofs.Walking.{few_none, few_one, walked_start, walked_turn, few_two, last_two_are}
use Rattle.comparisons.proofs.last_two.Goals as goal

pub returns-then-from-to : goal.returns-then-from-to
returns-then-from-to c = (few_none _ c.args.from c.args.to c.if-from-to.true, tt)

pub returns-then-first-to : goal.returns-then-first-to
returns-then-first-to c = (few_one _ c.args.from c.args.to c.line_at-first.result c.line_at-first.ensures c.if-first-to.true, tt)

pub line_at-second-requires : goal.line_at-second-requires
line_at-second-requires c = (omega (arith, c.line_at-first.ensures.inside, c.if-first-to.false), c.requires.1)

pub loop-next-init : goal.loop-next-init
loop-next-init c = walked_start _ c.args.from c.args.to c.line_at-first.result c.line_at-second.result c.line_at-first.ensures c.if-first-to.false c.line_at-second.ensures

pub line_at-z-requires : goal.line_at-z-requires
line_at-z-requires c = (c.loop-next-test.true, c.requires.1)

pub loop-next-smaller : goal.loop-next-smaller
loop-next-smaller c = omega (arith, c.line_at-z.ensures.onward, c.loop-next-test.true)

pub loop-next-preserved : goal.loop-next-preserved
loop-next-preserved c = walked_turn _ c.args.from c.args.to c.loop-next.left.from c.loop-next.left.to c.loop-next.right.from c.loop-next.right.to c.loop-next.next c.line_at-z.result c.loop-next.invariant c.loop-next-test.true c.line_at-z.ensures

pub returns-then-left-from : goal.returns-then-left-from
returns-then-left-from c = (few_two _ c.args.from c.args.to c.loop-next.left.from c.loop-next.left.to c.loop-next.right.from c.loop-next.right.to c.loop-next.next c.loop-next.invariant c.loop-next-test.false c.if-left-from.true, tt)

pub returns : goal.returns
returns c =
    let w = c.loop-next.invariant in (
      last_two_are _ c.args.from c.args.to c.loop-next.left.from c.loop-next.left.to c.loop-next.right.from c.loop-next.right.to c.loop-next.next w c.loop-next-test.false c.requires.1 c.if-left-from.false,
      (c.loop-next.invariant.inside.0, (c.loop-next.invariant.inside.1.0, (c.loop-next.invariant.inside.1.1, omega (arith, c.loop-next.invariant.ahead.0, c.loop-next.invariant.ahead.1)))),
    )
