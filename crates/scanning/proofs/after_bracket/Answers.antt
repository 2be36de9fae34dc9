-- `scanning::after_bracket` meets its contract. Assumes nothing.
use borrow.Author.Tests.{eq-eqb, ne_eqb}
use Rattle.scanning.proofs.after_bracket.Goals as goal

pub returns-then-b-eq48 : goal.returns-then-b-eq48
returns-then-b-eq48 c = simp (eq-eqb _ _ c.if-b-eq48.true)

pub returns : goal.returns
returns c = simp (ne_eqb _ _ c.if-b-eq48.false)
