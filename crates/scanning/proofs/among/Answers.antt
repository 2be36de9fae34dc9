-- `scanning::among` meets its contract: each test of the byte is one of the definition. Assumes nothing.
use mathlib.Core.Path.{sym, ◌∙◌}
use borrow.Author.Tests.{eq-eqb, ne_eqb}
use Rattle.scanning.proofs.among.Goals as goal

pub returns-then-b-eq109 : goal.returns-then-b-eq109
returns-then-b-eq109 c = simp (eq-eqb _ _ c.if-b-eq109.true)

pub returns-then-in_sequence : goal.returns-then-in_sequence
returns-then-in_sequence c = simp (ne_eqb _ _ c.if-b-eq109.false, sym c.in_sequence.ensures ∙ c.if-in_sequence.true)

pub returns : goal.returns
returns c = simp (ne_eqb _ _ c.if-b-eq109.false, sym c.in_sequence.ensures ∙ c.if-in_sequence.false)
