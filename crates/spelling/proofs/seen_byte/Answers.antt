-- `seen_byte` meets its contract. Assumes nothing.
use native.Mathlib.Omega.{arith}
use Rattle.std.proofs.lemmas.Grind.{common_steps}
use Rattle.runs.specs.Runs.{lower}
use Rattle.utf8.specs.Utf8.{within}
use Rattle.spelling.specs.Tables.{compared_byte}
use Rattle.spelling.proofs.seen_byte.Goals as goal

pub returns-then-caseless : goal.returns-then-caseless
unfolding compared_byte lower within
returns-then-caseless c = grind (arith, common_steps)

pub returns-else-caseless : goal.returns-else-caseless
unfolding compared_byte
returns-else-caseless c = rw (c.if-caseless.false, compared_byte)
