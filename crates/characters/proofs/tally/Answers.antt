-- `characters::tally` meets its contract. The loop's invariant: a byte passed begins a character or was counted, and b was met or is still to come.
-- Assumes nothing.
use native.Mathlib.Omega.{arith}
use mathlib.Core.Path.{sym, ap, ◌∙◌}
use mathlib.Core.Bool.{true, cond}
use lib.ListN.{get_or}
use Rattle.characters.proofs.Counting.{chars_step, chars_end, has_step, met_on, met_all, begins_or_not}
use Rattle.characters.proofs.tally.Goals as goal

pub overflow_add-trailing : goal.overflow_add-trailing
overflow_add-trailing c = omega (arith, begins_or_not (get_or c.args.round.now c.loop-x.x-index 0))

pub loop-x-preserved : goal.loop-x-preserved
loop-x-preserved c =
    let s = c.args.round.now in
    let i = c.loop-x.x-index in
    let e = begins_or_not (get_or s i 0) in
    let l = c.loop-x.invariant in
    record {
      few = omega arith;
      counted = omega (arith, chars_step s i c.loop-x-test.true);
      met = met_on c.loop-x.met _ _ ∙ ap (cond c.loop-x.met true) (sym (has_step c.args.b s i c.loop-x-test.true)) ∙ l.met;
    }

pub returns : goal.returns
returns c =
    let l = c.loop-x.invariant in
    record {
      trailing_value = omega (arith, chars_end c.args.round.now c.loop-x.x-index c.loop-x-test.false);
      met_value = met_all c.args.b c.args.round.now c.loop-x.x-index _ _ c.loop-x-test.false l.met;
    }
