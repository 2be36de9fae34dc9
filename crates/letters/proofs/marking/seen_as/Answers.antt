-- `letters::marking::seen_as` meets its contract. Assumes nothing.
use mathlib.Core.Path.{sym, ap}
use mathlib.Core.Bool.{Bool}
use Rattle.letters.specs.Marked.{seen_as}
use Rattle.letters.proofs.marking.seen_as.Goals as goal

pub returns-then-letter : goal.returns-then-letter
unfolding seen_as
returns-then-letter c = sym (ap (λ (l : Bool). seen_as l c.args.b) c.if-letter.true)

pub returns-else-letter : goal.returns-else-letter
unfolding seen_as
returns-else-letter c = sym (ap (λ (l : Bool). seen_as l c.args.b) c.if-letter.false)
