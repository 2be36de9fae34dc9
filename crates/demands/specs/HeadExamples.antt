-- Document 02, E7, on both sides: line calls on bytes, as one statement over lists. Assumes nothing.
use Rattle.std.specs.Prelude.{ℕ, ◌≡◌, refl, List, [], ◌∷◌, ◌++◌, length, replicate}
use Rattle.buffer.specs.Bytes.{byte, bytes}
use Rattle.answer.specs.Answers.{call_outcome}
use Rattle.buffer.specs.Computing as buffer
use Rattle.utf8.specs.Computing as utf8
use Rattle.characters.specs.Computing as characters
use Rattle.points.specs.Computing as points
use Rattle.widths.specs.Computing as widths
use Rattle.runs.specs.Computing as runs
use Rattle.letters.specs.Computing as letters
use Rattle.words.specs.Computing as words
use Rattle.segments.specs.Computing as segments
use Rattle.parts.specs.Computing as parts
use Rattle.braces.specs.Computing as braces
use Rattle.building.specs.Computing as building
use Rattle.template.specs.Computing as template
use Rattle.colour.specs.Computing as colour
use Rattle.settings.specs.Computing as settings
use Rattle.record.specs.Computing as records
use Rattle.checks.specs.Computing as checks
use Rattle.formats.specs.Computing as formats
use Rattle.paths.specs.Computing as paths
use Rattle.comparisons.specs.Computing as comparisons
use Rattle.fields.specs.Computing as fields
use Rattle.answer.specs.Computing as answer
use Rattle.demands.specs.Examples.{Says, prints, refuses, put_as}

-- one call: settings, the record's bytes, template, and what it answers
pub record Call : Type 0 where
  pub settings : ℕ
  pub bytes' : List ℕ
  pub template : List ℕ
  pub says : Says

-- a call as it is written
abbrev pub call : ℕ → List ℕ → List ℕ → Says → Call
call s d t x = record { settings = s; bytes' = d; template = t; says = x }

-- an INFO record of the device with that mask, without file, line, module and timestamp: the bytes before the message's length
abbrev front : ℕ → List ℕ
front mask = 0 ∷ 3 ∷ mask ∷ 0 ∷ 0 ∷ 0 ∷ 0 ∷ 0 ∷ 0 ∷ 0 ∷ 0 ∷ 0 ∷ 0 ∷ []

-- in the old form, with the message `hello`
abbrev pub old : ℕ → List ℕ
old mask = front mask ++ 5 ∷ 0 ∷ bytes "hello"

-- in the new form, with that message and that serial
abbrev pub new : ℕ → List ℕ → List ℕ → List ℕ
new mask message serial = front mask ++ length message ∷ 0 ∷ length serial ∷ 0 ∷ message ++ serial

-- with the message `hello`
abbrev pub from : ℕ → List ℕ → List ℕ
from mask serial = new mask (bytes "hello") serial

-- "shown by a new specifier `{d}` with default width 0 and `<head>` when absent", in either form
abbrev pub shown : List Call
shown =
    call 8 (from 8 (bytes "H-07")) (bytes "{d} {s}") (prints (bytes "H-07 hello"))
    ∷ call 8 (from 8 (bytes "H-07")) (bytes "{d:>6}|{s}") (prints (bytes "  H-07|hello"))
    ∷ call 8 (from 0 []) (bytes "{d} {s}") (prints (bytes "<head> hello"))
    ∷ call 8 (from 8 []) (bytes "{d} {s}") (prints (bytes " hello"))
    ∷ call 0 (old 0) (bytes "{d} {s}") (prints (bytes "<head> hello"))
    ∷ []

-- "14 now starts at mask 16, and in old sheets still at 8; 11 for the serial starts at 33 bytes; its 11 and 12 come after the message's"; and a record of the other
-- form is 15
abbrev pub bounded : List Call
bounded =
    call 0 (old 7) (bytes "{s}") (prints (bytes "hello"))
    ∷ call 0 (old 8) (bytes "{s}") (refuses 14)
    ∷ call 8 (from 15 []) (bytes "{s}") (prints (bytes "hello"))
    ∷ call 8 (from 16 []) (bytes "{s}") (refuses 14)
    ∷ call 8 (from 0 (bytes "H")) (bytes "{s}") (refuses 14)
    ∷ call 8 (from 8 (replicate 32 (byte "H"))) (bytes "{s}") (prints (bytes "hello"))
    ∷ call 8 (from 8 (replicate 33 (byte "H"))) (bytes "{s}") (refuses 11)
    ∷ call 8 (from 8 (replicate 33 0xFF)) (bytes "{s}") (refuses 11)
    ∷ call 8 (from 8 (0xFF ∷ [])) (bytes "{s}") (refuses 12)
    ∷ call 8 (new 8 (0xFF ∷ []) (replicate 33 (byte "H"))) (bytes "{s}") (refuses 12)
    ∷ call 8 (old 0) (bytes "{s}") (refuses 15)
    ∷ call 0 (from 0 []) (bytes "{s}") (refuses 15)
    ∷ call 16 (old 0) (bytes "{s}") (prints (bytes "hello"))
    ∷ call 32 (old 0) (bytes "{s}") (refuses 15)
    ∷ []

-- "Templates in which `d` is tried as a name now part from the crate", in three ways; the last three do not part
abbrev pub parted : List Call
parted =
    call 0 (old 0) (bytes "{d}{s}") (prints (bytes "<head>hello"))
    ∷ call 0 (old 0) (bytes "{x{d}{s}}") (prints (bytes "x<head>hello"))
    ∷ call 0 (old 0) (bytes "{d {s}}") (refuses 4)
    ∷ call 0 (old 0) (bytes "{x{d{s}}{L}}") (refuses 4)
    ∷ call 0 (old 0) (bytes "{d:{s}}") (refuses 3)
    ∷ call 0 (old 0) (bytes "{x{s:d}}") (refuses 3)
    ∷ call 0 (old 0) (bytes "{dd}{s}") (refuses 3)
    ∷ call 0 (old 0) (bytes "{[{s}]%d}") (refuses 3)
    ∷ call 0 (old 0) (bytes "{s d}") (prints (bytes "hello"))
    ∷ []

-- what the definitions answer, with so much room for each of them
unfoldable pub answered : ℕ → List Call → List Says
unfolding buffer.computes utf8.computes characters.computes points.computes widths.computes runs.computes letters.computes words.computes
    segments.computes parts.computes braces.computes building.computes template.computes
    colour.computes settings.computes records.computes checks.computes formats.computes paths.computes comparisons.computes fields.computes answer.computes
answered room [] = []
answered room (x ∷ rest) = put_as x.says (call_outcome x.settings x.template x.bytes' room) ∷ answered room rest

-- what the calls are to answer
unfoldable pub owed : List Call → List Says
owed [] = []
owed (x ∷ rest) = x.says ∷ owed rest

-- the definitions answer so: what `{d}` shows
pub heads_shown : answered 100 shown ≡ owed shown
unfolding answered owed put_as
heads_shown = refl

-- every limit on both sides
pub heads_bounded : answered 100 bounded ≡ owed bounded
unfolding answered owed put_as
heads_bounded = refl

-- and the ways of parting
pub heads_parted : answered 100 parted ≡ owed parted
unfolding answered owed put_as
heads_parted = refl
