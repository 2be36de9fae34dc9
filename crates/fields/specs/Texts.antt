-- The text that each specifier shows of a record (document 01, "Building a line"). Assumes nothing.
use Rattle.std.specs.Prelude.{ℕ, zero, suc, ◌+◌, ◌/◌, ◌%◌, true, false, List, [], ◌∷◌, ◌++◌, ltb}
use Rattle.buffer.specs.Bytes.{byte, bytes}
use Rattle.buffer.specs.Table.{Maybe, none, some}
use Rattle.words.specs.declared.LogMetadata.{LogMetadata}
use Rattle.words.specs.declared.LogMetadata.TheVariants.{CrateName, FileName, FilePath, LineNumber, Log, LogLevel, ModulePath, Timestamp, HeadSerial}
use Rattle.record.specs.declared.Source.{Source}
use Rattle.record.specs.declared.Source.TheVariants.{Defmt, Host}
use Rattle.record.specs.Levels.{name_of}
use Rattle.record.specs.Records.{Given, absent, given, Record}
use Rattle.paths.specs.Paths.{file_name, before_colons}

-- ---- placeholders

-- "`<crate>` without one"
abbrev pub no_crate : List ℕ
no_crate = bytes "<crate>"

-- "Absent: `<file>`, `<mod path>`, line 0"
abbrev pub no_file : List ℕ
no_file = bytes "<file>"

-- "`<mod path>`", of a module that is absent
abbrev pub no_module : List ℕ
no_module = bytes "<mod path>"

-- "an empty timestamp or a host record gives `<time>`"
abbrev pub no_time : List ℕ
no_time = bytes "<time>"

-- document 02, E7: "`<head>` when absent"
abbrev pub no_head : List ℕ
no_head = bytes "<head>"

-- a text, or the placeholder where there is none
unfoldable pub or_placeholder : List ℕ → Maybe (List ℕ) → List ℕ
or_placeholder p none = p
or_placeholder p (some t) = t

-- what f makes of a text that is there
unfoldable pub there : (List ℕ → Maybe (List ℕ)) → Given → Maybe (List ℕ)
there f absent = none
there f (given t) = f t

-- ---- numbers

-- the decimal digits of n, at most k of them
unfoldable pub digits : ℕ → ℕ → List ℕ
digits zero n = []
digits (suc k) n = elim (ltb n 10) [ true ↦ (byte "0" + n) ∷ [] | false ↦ digits k (n / 10) ++ (byte "0" + n % 10) ∷ [] ]

-- a 32-bit number has ten digits at most
unfoldable pub decimal_text : ℕ → List ℕ
decimal_text n = digits 10 n

-- ---- timestamps

-- a text that has a byte
unfoldable pub not_empty : List ℕ → Maybe (List ℕ)
not_empty [] = none
not_empty (b ∷ t) = some (b ∷ t)

-- "an empty timestamp or a host record gives `<time>`"
unfoldable pub time_of : Source → List ℕ → Maybe (List ℕ)
time_of Defmt t = not_empty t
time_of Host t = none

-- ---- all specifiers

-- "Absent: `<file>`, `<mod path>`, line 0"; "`<crate>` without one"; "A present file with no component left gives `<file>`"; "`<head>` when absent", and a
-- serial that is present and empty shows nothing
unfoldable pub wording : Record → LogMetadata → List ℕ
wording r CrateName = or_placeholder no_crate (there before_colons r.module_path)
wording r (FileName n) = or_placeholder no_file (there (file_name n) r.file)
wording r FilePath = or_placeholder no_file (there some r.file)
wording r LineNumber = decimal_text r.line
wording r Log = r.message
wording r LogLevel = name_of r.level
wording r ModulePath = or_placeholder no_module (there some r.module_path)
wording r Timestamp = or_placeholder no_time (time_of r.source r.timestamp)
wording r HeadSerial = or_placeholder no_head (there some r.serial)
