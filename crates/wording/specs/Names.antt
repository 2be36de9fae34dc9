-- Scaffolding, for proofs alone: the names of the levels one after another, as the code has them. Assumes nothing.
use Rattle.std.specs.Prelude.{ℕ, ◌≤◌, ◌≡◌, List, ◌++◌}
use Rattle.buffer.specs.Bytes.{part}
use Rattle.record.specs.declared.Name.TheVariants.{Error, Warn, Info, Debug, Trace}
use Rattle.record.specs.Levels.{level_name}

unfoldable pub names : List ℕ
names = level_name Error ++ level_name Warn ++ level_name Info ++ level_name Debug ++ level_name Trace

-- the text x stands there
pub record Stands (x : List ℕ) (from to : ℕ) : Type 0 where
  pub ordered : from ≤ to
  pub within : to ≤ 23
  pub text : part from to names ≡ x
