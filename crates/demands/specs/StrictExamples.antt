-- Document 02, E5, on both sides: templates and what each edition answers about them, as one statement over one list. Assumes nothing.
use Rattle.std.specs.Prelude.{ℕ, ◌+◌, ◌*◌, ◌≡◌, refl, List, [], ◌∷◌}
use Prim.Native.String.{String}
use Rattle.buffer.specs.Bytes.{bytes}
use Rattle.template.specs.declared.Edition.{Edition}
use Rattle.template.specs.Template.{read_by}
use Rattle.checking.specs.Templates.{refusal_told, check_of}
use Rattle.buffer.specs.Computing as buffer
use Rattle.utf8.specs.Computing as utf8
use Rattle.characters.specs.Computing as characters
use Rattle.points.specs.Computing as points
use Rattle.widths.specs.Computing as widths
use Rattle.runs.specs.Computing as runs
use Rattle.letters.specs.Computing as letters
use Rattle.words.specs.Computing as words
use Rattle.segments.specs.Computing as segments
use Rattle.parts.specs.Computing as parts
use Rattle.braces.specs.Computing as braces
use Rattle.building.specs.Computing as building
use Rattle.unused.specs.Computing as unused
use Rattle.template.specs.Computing as template

-- a template, and the answers of the first edition and of the strict one: 0 where it is read
pub record Row : Type 0 where
  pub template : List ℕ
  pub first : ℕ
  pub strict : ℕ

-- a row as it is written
abbrev pub row : String → ℕ → ℕ → Row
row t first strict = record { template = bytes t; first = first; strict = strict }

infix 70 ◌at◌
-- a refusal with the place that it tells
abbrev pub ◌at◌ : ℕ → ℕ → ℕ
n at p = n + 256 * p

-- what is left unused: at the end, in a brace, in an inner one; the technician's first
abbrev pub unused_rows : List Row
unused_rows =
    row "{s} %{t}" 0 (17 at 4)
    ∷ row "{s}%x" 0 (17 at 3)
    ∷ row "{s}{t" 0 (17 at 3)
    ∷ row "{s junk}" 0 (17 at 2)
    ∷ row "{s }" 0 (17 at 2)
    ∷ row "{s%bold}" 0 (17 at 2)
    ∷ row "{L07}{s}" 0 (17 at 2)
    ∷ row "{x{L:}}{s}" 0 (17 at 4)
    ∷ row "{x{L%5}}{s}" 0 (17 at 5)
    ∷ row "{x{L:red junk}}{s}" 0 (17 at 8)
    ∷ row "{a{s}\\{b%red}c" 0 (17 at 6)
    ∷ row "Température {L:é} {s}" 3 3
    ∷ row "Température {L é}{s}" 0 (17 at 15)
    ∷ []

-- parameters that are lost: "loses its own parameters". And "if it comes earlier": what comes first is told
abbrev pub lost_rows : List Row
lost_rows =
    row "{bold:[{L}]}{s}" 0 (17 at 1)
    ∷ row "{<5:[{L}]}{s}" 0 (17 at 1)
    ∷ row "{[{L%bold}]}{s}" 0 (17 at 5)
    ∷ row "{x{5%L}}{s}" 0 (17 at 3)
    ∷ row "{[{L x}]}{bold:[{t}]}{s}" 0 (17 at 4)
    ∷ row "{bold:[{L x}]}{s}" 0 (17 at 1)
    ∷ []

-- "every byte used and every parameter still in force": groups keep theirs, and what can be no parameter is text
abbrev pub used_rows : List Row
used_rows =
    row "{s}" 0 0
    ∷ row "{L:bold:<9} {s}" 0 0
    ∷ row "{[{L}]%bold}{s}" 0 0
    ∷ row "{[{L}]%bold:<12} {s}" 0 0
    ∷ row "{x{L:bold:bold{t}}{L}}{s}" 0 0
    ∷ row "{s}}" 0 0
    ∷ row "a}b\\c{s}" 0 0
    ∷ row "{Température {L}%bold} {s}" 0 0
    ∷ []

-- "checked after 3 to 10": what is refused otherwise is refused alike
abbrev pub refused_rows : List Row
refused_rows =
    row "{s:}" 3 3
    ∷ row "{t}%{s}" 4 4
    ∷ row "{s x}{t:513}" 7 7
    ∷ row "{s x}{L\\" 9 9
    ∷ []

-- what an edition answers
pub answers : Edition → List Row → List ℕ
unfolding buffer.computes utf8.computes characters.computes points.computes widths.computes runs.computes letters.computes words.computes
    segments.computes parts.computes braces.computes building.computes unused.computes template.computes refusal_told check_of
answers edition [] = []
answers edition (r ∷ rest) = check_of (read_by edition r.template) ∷ answers edition rest

-- what the rows say of the first edition
pub firsts : List Row → List ℕ
firsts [] = []
firsts (r ∷ rest) = r.first ∷ firsts rest

-- and of the strict one
pub stricts : List Row → List ℕ
stricts [] = []
stricts (r ∷ rest) = r.strict ∷ stricts rest

-- the editions answer what the rows say
pub record AsSaid (rows : List Row) : Type 0 where
  pub first : answers Edition.First rows ≡ firsts rows
  pub strict : answers Edition.Strict rows ≡ stricts rows

-- of what is left unused
pub unused_as_said : AsSaid unused_rows
unfolding answers firsts stricts
unused_as_said = record { first = refl; strict = refl }

-- of what is lost
pub lost_as_said : AsSaid lost_rows
unfolding answers firsts stricts
lost_as_said = record { first = refl; strict = refl }

-- of what is used
pub used_as_said : AsSaid used_rows
unfolding answers firsts stricts
used_as_said = record { first = refl; strict = refl }

-- of what is refused otherwise
pub refused_as_said : AsSaid refused_rows
unfolding answers firsts stricts
refused_as_said = record { first = refl; strict = refl }
