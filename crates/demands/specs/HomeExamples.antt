-- Document 02, E11, on both sides: pairs of line calls on bytes, and that the demand's premise holds of one pair and fails of another. Assumes nothing.
use Rattle.std.specs.Prelude.{ℕ, ◌≡◌, refl, true, false, List, [], ◌∷◌, ◌++◌, length}
use Rattle.std.proofs.Common.{arith}
use Rattle.buffer.specs.Bytes.{byte, bytes}
use Rattle.words.specs.declared.LogMetadata.TheVariants.{FilePath, Log, LogLevel}
use Rattle.parts.specs.Parts.{unformatted}
use Rattle.segments.specs.Segments.{LogSegments, text, specifier, none, more}
use Rattle.template.specs.declared.Edition.{Edition}
use Rattle.template.specs.Template.{read, read_by}
use Rattle.record.specs.declared.Form.{Form}
use Rattle.record.specs.Layout.{laid_out}
use Rattle.record.specs.Contents.{record_of}
use Rattle.answer.specs.Answers.{call_outcome}
use Rattle.buffer.specs.Computing as buffer
use Rattle.utf8.specs.Computing as utf8
use Rattle.characters.specs.Computing as characters
use Rattle.points.specs.Computing as points
use Rattle.widths.specs.Computing as widths
use Rattle.runs.specs.Computing as runs
use Rattle.letters.specs.Computing as letters
use Rattle.words.specs.Computing as words
use Rattle.segments.specs.Computing as segments
use Rattle.parts.specs.Computing as parts
use Rattle.braces.specs.Computing as braces
use Rattle.building.specs.Computing as building
use Rattle.unused.specs.Computing as unused
use Rattle.template.specs.Computing as template
use Rattle.colour.specs.Computing as colour
use Rattle.settings.specs.Computing as settings
use Rattle.record.specs.Computing as records
use Rattle.checks.specs.Computing as checks
use Rattle.formats.specs.Computing as formats
use Rattle.paths.specs.Computing as paths
use Rattle.comparisons.specs.Computing as comparisons
use Rattle.fields.specs.Computing as fields
use Rattle.answer.specs.Computing as answer
use Rattle.demands.specs.Examples.{Says, prints, refuses, put_as}
use Rattle.demands.specs.HomeDemand.{AgreeAmong}

-- ---- records

-- a record of the old form, from the device: level, mask, the low byte of its line number, file and module, and the message `hello`
abbrev pub record_laid : ℕ → ℕ → ℕ → List ℕ → List ℕ → List ℕ
record_laid level mask line file module' =
    0 ∷ level ∷ mask ∷ line ∷ 0 ∷ 0 ∷ 0 ∷ length file ∷ 0 ∷ length module' ∷ 0 ∷ 0 ∷ 0 ∷ 5 ∷ 0 ∷ file ++ (module' ++ bytes "hello")

-- of a site: INFO, with that file
abbrev pub site : List ℕ → List ℕ
site file = record_laid 3 1 0 file []

-- one of the new form: INFO, with that head
abbrev pub by_head : List ℕ → List ℕ
by_head serial = 0 ∷ 3 ∷ 8 ∷ 0 ∷ 0 ∷ 0 ∷ 0 ∷ 0 ∷ 0 ∷ 0 ∷ 0 ∷ 0 ∷ 0 ∷ 5 ∷ 0 ∷ length serial ∷ 0 ∷ bytes "hello" ++ serial

-- ---- pairs

-- two calls with the same settings and template, and what each answers
pub record Two : Type 0 where
  pub settings : ℕ
  pub template : List ℕ
  pub first : List ℕ
  pub second : List ℕ
  pub says : Says
  pub says' : Says

-- a pair as it is written
abbrev pub two : ℕ → List ℕ → List ℕ → List ℕ → Says → Says → Two
two s t d d' x x' = record { settings = s; template = t; first = d; second = d'; says = x; says' = x' }

-- where the template doesn't name what the two differ in, they get the same answer; so they do in a print, and where a template is refused
abbrev pub unnamed_pairs : List Two
unnamed_pairs =
    two 0 (bytes "{L} {s}") (site (bytes "/a")) (site (bytes "/b")) (prints (bytes "INFO  hello")) (prints (bytes "INFO  hello"))
    ∷ two 4 (bytes "{L} {s}") (site (bytes "/a")) (site (bytes "/a/long/path.rs")) (prints (bytes "INFO  hello")) (prints (bytes "INFO  hello"))
    ∷ two 0 (bytes "{l}{s}") (record_laid 3 0 0 [] []) (record_laid 3 2 0 [] []) (prints (bytes "0   hello")) (prints (bytes "0   hello"))
    ∷ two 0 (bytes "{F}{s}") (record_laid 0 1 0 (bytes "/a") []) (record_laid 0 1 0 (bytes "/b") []) (prints (bytes "hello")) (prints (bytes "hello"))
    ∷ two 0 (bytes "{F") (site (bytes "/a")) (site (bytes "/b")) (refuses 4) (refuses 4)
    ∷ two 8 (bytes "{L} {s}") (by_head (bytes "H-07")) (by_head (bytes "H-12")) (prints (bytes "INFO  hello")) (prints (bytes "INFO  hello"))
    ∷ []

-- where it names it, they may differ: the file, the module, the head
abbrev pub named_pairs : List Two
named_pairs =
    two 0 (bytes "{F} {s}") (site (bytes "/a")) (site (bytes "/b")) (prints (bytes "/a hello")) (prints (bytes "/b hello"))
    ∷ two 0 (bytes "{[{c}]%bold} {s}") (record_laid 3 4 0 [] (bytes "a::x")) (record_laid 3 4 0 [] (bytes "b::x")) (prints (bytes "[a] hello")) (prints (bytes "[b] hello"))
    ∷ two 8 (bytes "{d} {s}") (by_head (bytes "H-07")) (by_head (bytes "H-12")) (prints (bytes "H-07 hello")) (prints (bytes "H-12 hello"))
    ∷ []

-- what the definitions answer, with room enough for each of them
pub both_answered : List Two → List Says
unfolding buffer.computes utf8.computes characters.computes points.computes widths.computes runs.computes letters.computes words.computes
    segments.computes parts.computes braces.computes building.computes unused.computes template.computes
    colour.computes settings.computes records.computes checks.computes formats.computes paths.computes comparisons.computes fields.computes answer.computes
both_answered [] = []
both_answered (x ∷ rest) =
    put_as x.says (call_outcome x.settings x.template x.first 100)
    ∷ put_as x.says' (call_outcome x.settings x.template x.second 100)
    ∷ both_answered rest

-- what the pairs are to answer
pub both_owed : List Two → List Says
both_owed [] = []
both_owed (x ∷ rest) = x.says ∷ x.says' ∷ both_owed rest

-- the definitions answer so: what is not named stays home
pub pairs_alike : both_answered unnamed_pairs ≡ both_owed unnamed_pairs
unfolding both_answered both_owed put_as
pairs_alike = refl

-- and what is named does not
pub pairs_differing : both_answered named_pairs ≡ both_owed named_pairs
unfolding both_answered both_owed put_as
pairs_differing = refl

-- ---- the premise, of the first pair of each list

-- what `{L} {s}` is read as
abbrev level_first : LogSegments
level_first = more (specifier LogLevel unformatted) (more (text 3 4) (more (specifier Log unformatted) none))

-- what `{F} {s}` is read as
abbrev file_first : LogSegments
file_first = more (specifier FilePath unformatted) (more (text 3 4) (more (specifier Log unformatted) none))

-- they are read so
pub as_read : (read_by Edition.First (bytes "{L} {s}") ≡ read level_first) × (read_by Edition.First (bytes "{F} {s}") ≡ read file_first)
unfolding buffer.computes utf8.computes points.computes runs.computes letters.computes words.computes segments.computes parts.computes braces.computes building.computes template.computes
as_read = (refl, refl)

-- of two sites the records agree on every field that `{L} {s}` names
pub premise_holds : AgreeAmong level_first (record_of (laid_out Form.Old (site (bytes "/a")))) (record_of (laid_out Form.Old (site (bytes "/b"))))
unfolding buffer.computes records.computes
premise_holds = (refl, (tt, (refl, tt)))

-- and not on every field that `{F} {s}` names
pub premise_fails : AgreeAmong file_first (record_of (laid_out Form.Old (site (bytes "/a")))) (record_of (laid_out Form.Old (site (bytes "/b")))) → ⊥
unfolding buffer.computes records.computes
premise_fails a = let e = a.0 in let z : ◌≡◌ {A = ℕ} (byte "a") (byte "b") = cc in omega (arith, z)
