-- The fourteen starred examples of document 01, "Examples on both sides", as one statement over one list. Assumes nothing.
use Rattle.std.specs.Prelude.{ℕ, ◌≡◌, refl, List, [], ◌∷◌, ◌++◌}
use Rattle.buffer.specs.Bytes.{character, bytes}
use Rattle.refusals.specs.Numbers.{number}
use Rattle.colour.specs.declared.Settings.{Settings}
use Rattle.colour.specs.Sequences.{visible}
use Rattle.record.specs.declared.Form.{Form}
use Rattle.record.specs.Layout.{Laid}
use Rattle.colour.specs.Modes.{off, plain, straight, coloured}
use Rattle.template.specs.declared.Edition.{Edition}
use Rattle.answer.specs.Answers.{Outcome, line, refused, outcome}
use Rattle.buffer.specs.Computing as buffer
use Rattle.utf8.specs.Computing as utf8
use Rattle.characters.specs.Computing as characters
use Rattle.points.specs.Computing as points
use Rattle.widths.specs.Computing as widths
use Rattle.runs.specs.Computing as runs
use Rattle.letters.specs.Computing as letters
use Rattle.words.specs.Computing as words
use Rattle.segments.specs.Computing as segments
use Rattle.parts.specs.Computing as parts
use Rattle.braces.specs.Computing as braces
use Rattle.building.specs.Computing as building
use Rattle.template.specs.Computing as template
use Rattle.colour.specs.Computing as colour
use Rattle.record.specs.Computing as records
use Rattle.checks.specs.Computing as checks
use Rattle.formats.specs.Computing as formats
use Rattle.paths.specs.Computing as paths
use Rattle.comparisons.specs.Computing as comparisons
use Rattle.fields.specs.Computing as fields
use Rattle.answer.specs.Computing as answer

-- what an example says of a template and a record
pub data Says : Type 0 where
  prints : List ℕ → Says
  prints_visibly : List ℕ → Says
  reads : Says
  refuses : ℕ → Says

-- one example: settings, record, template, and what it says
pub record Example : Type 0 where
  pub settings : Settings
  pub record' : Laid
  pub template : List ℕ
  pub says : Says

-- ---- the records of the examples: "INFO, message `hello`, colour off unless said"

-- from the device, with a level and perhaps a file
abbrev hello : ℕ → ℕ → List ℕ → Laid
hello level mask file = record {
  source = 0;
  level = level;
  mask = mask;
  line = 0;
  file = file;
  module_path = [];
  timestamp = [];
  message = bytes "hello";
  serial = [];
}

abbrev info : Laid
info = hello 3 0 []

abbrev error : Laid
error = hello 1 0 []

abbrev info_in_a_b : Laid
info_in_a_b = hello 3 1 (bytes "/a/b.rs")

-- ---- the list

abbrev example : Settings → Laid → List ℕ → Says → Example
example s d t x = record { settings = s; record' = d; template = t; says = x }

-- the fourteen, each * with the case right after it; the last in its three modes
abbrev pub examples : List Example
examples =
    example (plain off) info (bytes "[{L}] {s}") (prints (bytes "[INFO ] hello"))
    ∷ example (plain off) info (bytes "{L:07} {s}") (prints (bytes "INFO000 hello"))
    ∷ example (plain off) info (bytes "{L:^7} {s}") (prints (bytes " INFO   hello"))
    ∷ example (plain off) info (bytes "{s:bold:bold}") (refuses 3)
    ∷ example (plain off) info (bytes "{s:bold:underline:italic}") reads
    ∷ example (plain off) info (bytes "{s}%x") (prints (bytes "hello"))
    ∷ example (plain off) info (bytes "{t}") (refuses 4)
    ∷ example (plain off) info (bytes "{}") (refuses 3)
    ∷ example (plain off) info (bytes "{s}{t") (prints (bytes "hello"))
    ∷ example (plain off) info (bytes "{s\\") (refuses 9)
    ∷ example (plain off) info (bytes "{{[{L}]} x} {s}") (refuses 3)
    ∷ example (plain off) info (bytes "{[{L}]%bold:<12} {s}") (prints (bytes "[INFO ]:<12 hello"))
    ∷ example (plain off) info_in_a_b (bytes "{ff}{s}") (prints (bytes "a/b.rshello"))
    ∷ example (coloured off) error (bytes "{[{L}]%bold%<9}|{s}") (prints_visibly (bytes "[ERROR]|hello"))
    ∷ example (straight off) error (bytes "{[{L}]%bold%<9}|{s}") (prints_visibly (bytes "[ERROR]  |hello"))
    ∷ example (plain off) error (bytes "{[{L}]%bold%<9}|{s}") (prints (bytes "[ERROR]  |hello"))
    ∷ []

-- document 02, E2: "Files built as ./src/a.rs print src/a.rs for `{fff}` where the crate prints ./src/a.rs"; "So `.` alone prints `.`, and a root, a dot and a name
-- still make two components"
abbrev pub leading_dots : List Example
leading_dots =
    example (plain off) (hello 3 1 (bytes "./src/a.rs")) (bytes "{fff}{s}") (prints (bytes "./src/a.rshello"))
    ∷ example (plain off) (hello 3 1 (bytes "./src/a.rs")) (bytes "{ff}{s}") (prints (bytes "src/a.rshello"))
    ∷ example (plain off) (hello 3 1 (bytes ".")) (bytes "{f}{s}") (prints (bytes ".hello"))
    ∷ example (plain off) (hello 3 1 (bytes "/./a")) (bytes "{fff}{s}") (prints (bytes "//ahello"))
    ∷ []

-- document 02, E3: "Our French crews write `{Température {L}%bold} {s}` and get refusal 10"; "a colour word spelled with the Kelvin sign (U+212A), which
-- Rust lower-cases to k, isn't a colour here"
abbrev pub accented : List Example
accented =
    example (plain off) info (bytes "{Température {L}%bold} {s}") (prints (bytes "Température INFO  hello"))
    ∷ example (plain off) info (bytes "{sé}") (refuses 3)
    ∷ example (plain off) info (bytes "{s→}") (prints (bytes "hello"))
    ∷ example (plain off) info (bytes "{aé {s}}") (prints (bytes "aé hello"))
    ∷ example (plain off) info (bytes "{x{s:aé}}") (prints (bytes "xhello"))
    ∷ example (plain off) info (bytes "{s:blac" ++ (character 0x212A ++ bytes "}")) (refuses 3)
    ∷ []

-- ---- what the definitions say, put as the example puts it

-- an outcome, put as the example puts it
unfoldable pub put_as : Says → Outcome → Says
put_as (prints w) (line s) = prints s
put_as (prints w) (refused r) = refuses (number r)
put_as (prints_visibly w) (line s) = prints_visibly (visible s)
put_as (prints_visibly w) (refused r) = refuses (number r)
put_as reads (line s) = reads
put_as reads (refused r) = refuses (number r)
put_as (refuses n) (line s) = prints s
put_as (refuses n) (refused r) = refuses (number r)

-- room enough for each of them
pub said : List Example → List Says
unfolding buffer.computes utf8.computes characters.computes points.computes widths.computes runs.computes letters.computes words.computes
    segments.computes parts.computes braces.computes building.computes template.computes
    colour.computes records.computes checks.computes formats.computes paths.computes comparisons.computes fields.computes answer.computes
said [] = []
said (x ∷ rest) = put_as x.says (outcome Form.Old Edition.First x.settings x.template x.record' 100) ∷ said rest

-- what the examples say
pub expected : List Example → List Says
expected [] = []
expected (x ∷ rest) = x.says ∷ expected rest

-- the definitions say what the examples say
pub starred : said examples ≡ expected examples
unfolding said expected put_as
starred = refl

-- and what the request about a leading dot says
pub dotted : said leading_dots ≡ expected leading_dots
unfolding said expected put_as
dotted = refl

-- and what the one about accented letters says
pub lettered : said accented ≡ expected accented
unfolding said expected put_as
lettered = refl
