-- A record: what the lines are about. Assumes nothing.
use Rattle.std.specs.Prelude.{ℕ, List}
use Rattle.record.specs.declared.Source.{Source}
use Rattle.record.specs.declared.Level.{Level}

-- a text that may be absent
pub data Given : Type 0 where
  absent : Given
  given : List ℕ → Given

-- what a line is about
pub record Record : Type 0 where
  pub source : Source
  pub level : Level
  pub file : Given
  -- 0 where it is absent
  pub line : ℕ
  pub module_path : Given
  pub timestamp : List ℕ
  pub message : List ℕ
  pub serial : Given
