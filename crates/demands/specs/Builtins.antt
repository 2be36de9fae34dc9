-- Every built-in template is read by either edition, for a device and for a host. Assumes nothing.
use Rattle.std.specs.Prelude.{ℕ, ◌≡◌, refl, Bool, true, false, ◌&&◌, List, [], ◌∷◌}
use Rattle.builtin.specs.declared.Style.TheVariants.{Default, OneLine}
use Rattle.builtin.specs.Builtins.{builtin, for_host, builtin_text}
use Rattle.template.specs.declared.Edition.{Edition}
use Rattle.template.specs.Template.{Template, read, refusal, read_by}
use Rattle.buffer.specs.Computing as buffer
use Rattle.utf8.specs.Computing as utf8
use Rattle.characters.specs.Computing as characters
use Rattle.points.specs.Computing as points
use Rattle.widths.specs.Computing as widths
use Rattle.runs.specs.Computing as runs
use Rattle.letters.specs.Computing as letters
use Rattle.words.specs.Computing as words
use Rattle.segments.specs.Computing as segments
use Rattle.parts.specs.Computing as parts
use Rattle.braces.specs.Computing as braces
use Rattle.building.specs.Computing as building
use Rattle.unused.specs.Computing as unused
use Rattle.template.specs.Computing as template

-- by style, host, location and timestamp
abbrev pub builtins : List (List ℕ)
builtins =
    builtin_text Default false false false
    ∷ builtin_text Default false true false
    ∷ builtin_text Default true false false
    ∷ builtin_text Default true true false
    ∷ builtin_text Default false false true
    ∷ builtin_text Default false true true
    ∷ builtin_text Default true false true
    ∷ builtin_text Default true true true
    ∷ builtin_text OneLine false false false
    ∷ builtin_text OneLine false true false
    ∷ builtin_text OneLine true false false
    ∷ builtin_text OneLine true true false
    ∷ builtin_text OneLine false false true
    ∷ builtin_text OneLine false true true
    ∷ builtin_text OneLine true false true
    ∷ builtin_text OneLine true true true
    ∷ []

abbrev is_read : Template → Bool
is_read (read s) = true
is_read (refusal r) = false

-- whether each of some templates is read by an edition
pub all_read : Edition → List (List ℕ) → Bool
unfolding buffer.computes utf8.computes characters.computes points.computes widths.computes runs.computes letters.computes words.computes
    segments.computes parts.computes braces.computes building.computes unused.computes template.computes
all_read edition [] = true
all_read edition (t ∷ rest) = is_read (read_by edition t) && all_read edition rest

-- each built-in template is read
pub builtins_read : all_read Edition.First builtins ≡ true
unfolding all_read builtin for_host
builtins_read = refl

-- by the strict edition, too: all eight leave nothing unused, for a device and for a host
pub builtins_strict : all_read Edition.Strict builtins ≡ true
unfolding all_read builtin for_host
builtins_strict = refl
