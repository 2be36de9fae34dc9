-- Scaffolding, for proofs alone: the table of templates: which row has which. Assumes nothing.
use Rattle.std.specs.Prelude.{ℕ, ◌+◌, Bool, true, false, List, [], ◌∷◌, get_or}
use Rattle.builtin.specs.declared.Style.{Style}
use Rattle.builtin.specs.declared.Style.TheVariants.{Default, OneLine}
use Rattle.builtin.specs.Builtins.{builtin}

-- the row of a template among the four of a style
abbrev pub from_two : Bool → Bool → ℕ
from_two false false = 0
from_two false true = 1
from_two true false = 2
from_two true true = 3

abbrev pub template_row : Style → Bool → Bool → ℕ
template_row Default location timestamp = from_two location timestamp
template_row OneLine location timestamp = 4 + from_two location timestamp

-- the template of a row
unfoldable pub row_text : ℕ → List ℕ
row_text k =
    get_or
    (builtin Default false false
    ∷ builtin Default false true
    ∷ builtin Default true false
    ∷ builtin Default true true
    ∷ builtin OneLine false false
    ∷ builtin OneLine false true
    ∷ builtin OneLine true false
    ∷ builtin OneLine true true
    ∷ [])
    k []
