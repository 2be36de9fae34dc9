-- A template's segments and a record give what is shown, and that gives the line (document 01, "Building a line"). Assumes nothing.
use Rattle.std.specs.Prelude.{ℕ, List}
use Rattle.buffer.specs.Bytes.{part}
use Rattle.buffer.specs.Table.{Maybe}
use Rattle.buffer.specs.Table as table
use Rattle.words.specs.declared.LogMetadata.{LogMetadata}
use Rattle.words.specs.declared.LogMetadata.TheVariants.{CrateName, FileName, FilePath, LineNumber, Log, LogLevel, ModulePath, Timestamp, HeadSerial}
use Rattle.words.specs.declared.LogFormat.{LogFormat}
use Rattle.colour.specs.declared.Settings.{Settings}
use Rattle.colour.specs.Shown.{Shown, Members, joined}
use Rattle.colour.specs.Shown as shown
use Rattle.segments.specs.Segments.{LogSegment, LogSegments, text, specifier, group, none, more}
use Rattle.comparisons.specs.Comparisons.{Comparison, comparison, laid_or_else}
use Rattle.record.specs.declared.Source.{Source}
use Rattle.record.specs.declared.Source.TheVariants.{Defmt, Host}
use Rattle.record.specs.declared.Level.{Level}
use Rattle.record.specs.declared.Level.TheVariants.{Print, Named, Refused}
use Rattle.record.specs.Records.{Record}
use Rattle.fields.specs.Texts.{wording}
use Rattle.formats.specs.Formats.{specifier_format, group_format}

-- a specifier's text in its format
unfoldable pub in_format : Record → LogMetadata → LogFormat → Shown
in_format r m f = shown.specifier (specifier_format r.level m f) (wording r m)

-- document 02, E10: "Take it over for device messages, prints without level included": what the message m from a source compares
unfoldable pub compared_from : Source → List ℕ → Maybe Comparison
compared_from Defmt m = comparison m
compared_from Host m = table.none

-- what a record's message compares, if it does
abbrev pub comparison_of : Record → Maybe Comparison
comparison_of r = compared_from r.source r.message

-- "A host's `{s}` is the bare message, no width, style or colour"; a device's is in its format, or laid out where it is a comparison
unfoldable pub message_from : Source → Record → LogFormat → Shown
message_from Defmt r f = laid_or_else (in_format r Log f) (comparison_of r)
message_from Host r f = shown.text r.message

-- what a specifier shows: a text in its format, but for a host's message
unfoldable pub specifier_shown : Record → LogMetadata → LogFormat → Shown
specifier_shown r CrateName f = in_format r CrateName f
specifier_shown r (FileName n) f = in_format r (FileName n) f
specifier_shown r FilePath f = in_format r FilePath f
specifier_shown r LineNumber f = in_format r LineNumber f
specifier_shown r Log f = message_from r.source r f
specifier_shown r LogLevel f = in_format r LogLevel f
specifier_shown r ModulePath f = in_format r ModulePath f
specifier_shown r Timestamp f = in_format r Timestamp f
specifier_shown r HeadSerial f = in_format r HeadSerial f

-- each segment of the template t
unfoldable mutual
  pub segment_shown : List ℕ → Record → LogSegment → Shown
  segment_shown t r (text i j) = shown.text (part i j t)
  segment_shown t r (specifier m f) = specifier_shown r m f
  segment_shown t r (group s f) = shown.group (group_format r.level f) (segments_shown t r s)

  pub segments_shown : List ℕ → Record → LogSegments → Members
  segments_shown t r none = shown.none
  segments_shown t r (more x rest) = shown.more (segment_shown t r x) (segments_shown t r rest)

-- a message alone, laid out where it is a comparison
unfoldable pub print_shown : Record → Shown
print_shown r = laid_or_else (shown.text r.message) (comparison_of r)

-- "0 is a print without level: the line is the message alone, unpadded"; a record with a refused level is never shown, and is taken as one
unfoldable pub record_shown : Level → List ℕ → Record → LogSegments → Members
record_shown Print t r s = shown.more (print_shown r) shown.none
record_shown (Named n c) t r s = segments_shown t r s
record_shown Refused t r s = shown.more (print_shown r) shown.none

-- the line of a record, by a template t that was read as the segments s
unfoldable pub line_of : Settings → List ℕ → LogSegments → Record → List ℕ
line_of settings t s r = joined settings (record_shown r.level t r s)
