-- `letters::marking::left_in` meets its contract. Assumes nothing.
use mathlib.Core.Path.{sym, ◌∙◌}
use mathlib.Core.Bool.{false}
use native.Mathlib.Omega.{arith}
use Rattle.letters.proofs.Marks.{left_first, left_on}
use Rattle.letters.proofs.marking.left_in.Goals as goal

pub returns-then-left-eq0 : goal.returns-then-left-eq0
returns-then-left-eq0 c = (c.size_of.ensures.0 ∙ sym (left_first c.args.t.now c.args.i c.args.left false c.if-left-eq0.true), c.size_of.ensures.1)

pub returns-else-left-eq0 : goal.returns-else-left-eq0
returns-else-left-eq0 c = (sym (left_on _ _ c.if-left-eq0.false), omega (arith, c.if-left-eq0.false))
