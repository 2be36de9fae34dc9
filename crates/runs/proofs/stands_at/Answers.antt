-- `stands_at` meets its contract. Assumes nothing.
use native.Mathlib.Omega.{arith}
use Rattle.std.proofs.lemmas.Grind.{common_steps}
use Rattle.runs.specs.Runs.{stands}
use Rattle.runs.proofs.stands_at.Goals as goal

pub returns-then-i-e : goal.returns-then-i-e
unfolding stands
returns-then-i-e c = grind (arith, common_steps)

pub returns-else-i-e : goal.returns-else-i-e
unfolding stands
returns-else-i-e c = grind (arith, common_steps)
