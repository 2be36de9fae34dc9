-- `caret::ends_control` meets its contract. Assumes nothing.
use Rattle.std.proofs.Common.{tests, arith}
use Rattle.utf8.specs.Utf8.{within}
use Rattle.caret.specs.Caret.{ends_control}
use Rattle.caret.proofs.ends_control.Goals as goal

pub returns-then-before-eq194 : goal.returns-then-before-eq194
unfolding ends_control within
returns-then-before-eq194 c = grind (arith, tests, c.contains.ensures.value)

pub returns-else-before-eq194 : goal.returns-else-before-eq194
unfolding ends_control within
returns-else-before-eq194 c = grind (arith, tests)
