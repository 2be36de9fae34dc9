-- `is_letter` meets its contract. Assumes nothing.
use native.Mathlib.Omega.{arith}
use Rattle.std.proofs.lemmas.Grind.{common_steps}
use Rattle.utf8.specs.Utf8.{within}
use Rattle.runs.specs.Runs.{letter}
use Rattle.runs.proofs.is_letter.Goals as goal

pub returns-then-is_ascii_alphabetic : goal.returns-then-is_ascii_alphabetic
unfolding letter within
returns-then-is_ascii_alphabetic c = grind (arith, common_steps)

pub returns-else-is_ascii_alphabetic : goal.returns-else-is_ascii_alphabetic
unfolding letter within
returns-else-is_ascii_alphabetic c = grind (arith, common_steps)
