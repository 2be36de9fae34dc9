-- `scanning::after_escape` meets its contract. Assumes nothing.
use borrow.Author.Tests.{eq-eqb, ne_eqb}
use Rattle.scanning.proofs.after_escape.Goals as goal

pub returns-then-b-eq91 : goal.returns-then-b-eq91
returns-then-b-eq91 c = simp (eq-eqb _ _ c.if-b-eq91.true)

pub returns : goal.returns
returns c = simp (ne_eqb _ _ c.if-b-eq91.false)
