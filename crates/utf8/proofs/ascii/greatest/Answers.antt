-- `utf8::ascii::greatest` meets its contract. The loop's invariant: the greatest of the bytes passed. Assumes nothing.
use native.Mathlib.Omega.{arith}
use mathlib.Core.Path.{◌∙◌}
use lib.ListN.{get_or}
use Rattle.utf8.proofs.Greatest.{top_step, top_end, greater_of}
use Rattle.utf8.proofs.ascii.greatest.Goals as goal

pub loop-b-preserved : goal.loop-b-preserved
loop-b-preserved c = omega (arith, c.max-top.ensures ∙ greater_of c.loop-b.top (get_or c.args.s.now c.loop-b.b-index 0), top_step c.args.s.now c.loop-b.b-index c.loop-b-test.true, c.loop-b.invariant)

pub returns : goal.returns
returns c = omega (arith, top_end c.args.s.now c.loop-b.b-index c.loop-b-test.false, c.loop-b.invariant)
