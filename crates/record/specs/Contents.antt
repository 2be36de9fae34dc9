-- What the numbers and texts of a record mean (document 01, "Session sheet and its program"). Assumes nothing.
use Rattle.std.specs.Prelude.{ℕ, zero, suc, ◌/◌, ◌%◌, Bool, true, false, List, eqb}
use Rattle.record.specs.declared.Source.{Source}
use Rattle.record.specs.declared.marks.Field.{Field}
use Rattle.record.specs.Levels.{level_of}
use Rattle.record.specs.Records.{Given, absent, given, Record}
use Rattle.record.specs.Layout.{Laid}

-- what a mask marks as there: "presence mask (1 file, 2 line, 4 module)"; "Presence mask 8 marks it": the head's serial
abbrev pub marks : ℕ → Field → Bool
marks mask Field.File = eqb (mask % 2) 1
marks mask Field.Line = eqb (mask / 2 % 2) 1
marks mask Field.Module = eqb (mask / 4 % 2) 1
marks mask Field.Serial = eqb (mask / 8 % 2) 1

-- the mask marks a file
unfoldable pub has_file : Laid → Bool
has_file d = marks d.mask Field.File

-- the mask marks a line
unfoldable pub has_line : Laid → Bool
has_line d = marks d.mask Field.Line

-- the mask marks a module
unfoldable pub has_module : Laid → Bool
has_module d = marks d.mask Field.Module

-- the mask marks the head's serial
unfoldable pub has_serial : Laid → Bool
has_serial d = marks d.mask Field.Serial

-- "0 device, 1 host"
unfoldable pub source_of : ℕ → Source
source_of zero = Source.Defmt
source_of (suc n) = Source.Host

-- a text that is marked present, or an absent one
unfoldable pub given_if : Bool → List ℕ → Given
given_if true t = given t
given_if false t = absent

-- the record that is laid out
unfoldable pub record_of : Laid → Record
record_of d = record {
  source = source_of d.source;
  level = level_of d.level;
  file = given_if (has_file d) d.file;
  line = d.line;
  module_path = given_if (has_module d) d.module_path;
  timestamp = d.timestamp;
  message = d.message;
  serial = given_if (has_serial d) d.serial;
}
