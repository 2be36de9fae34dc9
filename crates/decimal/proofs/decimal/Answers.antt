-- `decimal::decimal` meets its contract. The loop's invariant: the digits of what is left, then those written, are all; and there are places for those left. Assumes nothing.
use borrow.Author.Rules.{rules}
use mathlib.Core.Path.{sym, ◌∙◌}
use native.Mathlib.Omega.{arith}
use lib.ListN.{length-set}
use Rattle.fields.specs.Texts.{digits, decimal_text}
use Rattle.decimal.proofs.Digits.{room, fewer, digits_begin, digits_turn, digits_end_lem}
use Rattle.decimal.proofs.decimal.Goals as goal

pub loop-left-init : goal.loop-left-init
loop-left-init c = (search rules, (omega (arith, c.requires.0), (c.requires.1, digits_begin c.args.n c.args.into.now (omega (arith, c.requires.1)))))

pub overflow_sub-i : goal.overflow_sub-i
overflow_sub-i c = omega (arith, room c.loop-left.i c.loop-left.left c.loop-left.invariant.1.0 c.loop-left-test.true)

pub loop-left-preserved : goal.loop-left-preserved
loop-left-preserved c =
    let g = room c.loop-left.i c.loop-left.left c.loop-left.invariant.1.0 c.loop-left-test.true in (
      search rules,
      (
        fewer c.loop-left.i c.loop-left.left g c.loop-left.invariant.1.0,
        (
          length-set c.loop-left.into c.loop-left.i c.digit.result ∙ c.loop-left.invariant.1.1.0,
          digits_turn c.loop-left.i c.loop-left.left c.digit.result c.loop-left.into (digits 10 c.args.n) (omega (arith, c.loop-left.invariant.1.1.0)) c.loop-left.invariant.1.1.1 g c.loop-left-test.true c.digit.ensures,
        ),
      ),
    )

pub shape_of-into : goal.shape_of-into
shape_of-into c = length-set c.loop-left.into c.loop-left.i c.digit-2.result ∙ c.loop-left.invariant.1.1.0 ∙ sym c.requires.1

pub returns : goal.returns
unfolding decimal_text
returns c = (
  search rules,
  digits_end_lem c.loop-left.i c.loop-left.left c.digit-2.result c.loop-left.into (digits 10 c.args.n) (omega (arith, c.loop-left.invariant.1.1.0)) c.loop-left.invariant.1.1.1 (omega (arith, c.loop-left.invariant.1.1.0)) (omega arith) c.digit-2.ensures,
)
