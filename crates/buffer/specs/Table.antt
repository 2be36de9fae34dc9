-- Tables of words: a word and what it stands for, one to a line. Assumes nothing.
use Rattle.std.specs.Prelude.{ℕ, true, false, List, [], ◌∷◌}
use Prim.Native.String.{String}
use Rattle.buffer.specs.Bytes.{bytes, same}

-- what may be missing
pub data Maybe (A : Type 0) : Type 0 where
  none : Maybe A
  some : A → Maybe A

-- one line of a table
pub record Entry (A : Type 0) : Type 0 where
  pub word : List ℕ
  pub value : A

infix 70 ◌means◌
-- a line as it is written: the word, and what it means
abbrev pub ◌means◌ : {A : Type 0} → String → A → Entry A
w means a = record { word = bytes w; value = a }

-- what the first line with the word w says
unfoldable pub lookup : {A : Type 0} → List (Entry A) → List ℕ → Maybe A
lookup [] w = none
lookup (e ∷ rest) w = elim (same e.word w) [ true ↦ some e.value | false ↦ lookup rest w ]
