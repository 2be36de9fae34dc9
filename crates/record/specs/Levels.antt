-- Levels: what a level number means, and the name of a level (document 01, "Building a line"). Assumes nothing.
use Rattle.std.specs.Prelude.{ℕ, true, false, List, [], ◌∷◌, eqb}
use Rattle.buffer.specs.Bytes.{bytes}
use Rattle.words.specs.declared.Color.TheVariants.{Red, Yellow, Green, BrightWhite, BrightBlack}
use Rattle.record.specs.declared.Name.{Name}
use Rattle.record.specs.declared.Name.TheVariants.{Error, Warn, Info, Debug, Trace}
use Rattle.record.specs.declared.Level.{Level}
use Rattle.record.specs.declared.Level.TheVariants.{Print, Named, Refused}

-- one line of the table: a number, and what it means
pub record Numbered : Type 0 where
  pub number : ℕ
  pub level : Level

infix 70 ◌denotes◌
-- a line as it is written
abbrev pub ◌denotes◌ : ℕ → Level → Numbered
n denotes l = record { number = n; level = l }

-- "Level numbers 1 to 5 mean ERROR, WARN, INFO, DEBUG, TRACE, coloured red, yellow, green, bright white, bright black; 0 is a print without level"
abbrev pub levels : List Numbered
levels =
    0 denotes Print
    ∷ 1 denotes Named Error Red
    ∷ 2 denotes Named Warn Yellow
    ∷ 3 denotes Named Info Green
    ∷ 4 denotes Named Debug BrightWhite
    ∷ 5 denotes Named Trace BrightBlack
    ∷ []

-- what the line with the number n says; a number that no line has is refused: 14 is given for a "level over 5"
unfoldable pub level_in : List Numbered → ℕ → Level
level_in [] n = Refused
level_in (x ∷ rest) n = elim (eqb x.number n) [ true ↦ x.level | false ↦ level_in rest n ]

-- what the level number n means
unfoldable pub level_of : ℕ → Level
level_of n = level_in levels n

-- "ERROR, WARN, INFO, DEBUG, TRACE"
abbrev pub level_name : Name → List ℕ
level_name Error = bytes "ERROR"
level_name Warn = bytes "WARN"
level_name Info = bytes "INFO"
level_name Debug = bytes "DEBUG"
level_name Trace = bytes "TRACE"

-- the name that `{L}` shows: "a print without level" has none, and no line is made of a record that is refused
abbrev pub name_of : Level → List ℕ
name_of Print = []
name_of (Named n c) = level_name n
name_of Refused = []
