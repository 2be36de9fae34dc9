-- `letters::marking::letter_in` meets its contract. Assumes nothing.
use mathlib.Core.Path.{sym, ◌∙◌}
use Rattle.letters.proofs.Marks.{letter_first, letter_on}
use Rattle.letters.proofs.marking.letter_in.Goals as goal

pub returns-then-left-eq0 : goal.returns-then-left-eq0
returns-then-left-eq0 c = c.opens_letter.ensures ∙ sym (letter_first c.args.t.now c.args.i c.args.left c.args.letter c.if-left-eq0.true)

pub returns-else-left-eq0 : goal.returns-else-left-eq0
returns-else-left-eq0 c = sym (letter_on _ _ _ c.if-left-eq0.false)
