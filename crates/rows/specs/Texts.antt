-- Scaffolding, for proofs alone: A segment of a template before and after it is formatted, as the code goes about it. Assumes nothing.
use Rattle.std.specs.Prelude.{ℕ, Bool, true, false, ◌||◌, List}
use Rattle.buffer.specs.Bytes.{part}
use Rattle.words.specs.declared.LogMetadata.{LogMetadata}
use Rattle.words.specs.declared.LogMetadata.TheVariants.{CrateName, FileName, FilePath, LineNumber, Log, LogLevel, ModulePath, Timestamp, HeadSerial}
use Rattle.colour.specs.declared.Settings.{Settings}
use Rattle.colour.specs.declared.Format.{Format}
use Rattle.colour.specs.Shown.{text_of, joined}
use Rattle.segments.specs.Segments.{LogSegment, LogSegments, text, specifier, group}
use Rattle.parts.specs.Parts.{unformatted}
use Rattle.record.specs.declared.Source.{Source}
use Rattle.record.specs.declared.Level.{Level}
use Rattle.record.specs.Records.{Record}
use Rattle.leaves.specs.declared.Shown.{Shown}
use Rattle.leaves.specs.Places.{has_comparison, record_by, source_by}
use Rattle.leaves.specs.Fields.{is_there, field_text}
use Rattle.formats.specs.Formats.{specifier_format, group_format}
use Rattle.fields.specs.Lines.{comparison_of, segment_shown, segments_shown}

-- a segment's text, by template t and record r
abbrev pub segment_text : Settings → List ℕ → Record → LogSegment → List ℕ
segment_text s t r x = text_of s (segment_shown t r x)

abbrev pub segments_text : Settings → List ℕ → Record → LogSegments → List ℕ
segments_text s t r x = joined s (segments_shown t r x)

-- the same before it is formatted
unfoldable pub raw_text : Settings → List ℕ → Record → LogSegment → List ℕ
raw_text s t r (text i j) = part i j t
raw_text s t r (specifier m f) = field_text s r m
raw_text s t r (group x f) = segments_text s t r x

-- the same of what is lent: the record that is shown by p and whose bytes are d, the segments of a pool
abbrev pub record_segment : Settings → List ℕ → Shown → List ℕ → LogSegment → List ℕ
record_segment s t p d x = segment_text s t (record_by p d) x

abbrev pub record_segments : Settings → List ℕ → Shown → List ℕ → LogSegments → List ℕ
record_segments s t p d x = segments_text s t (record_by p d) x

abbrev pub record_raw : Settings → List ℕ → Shown → List ℕ → LogSegment → List ℕ
record_raw s t p d x = raw_text s t (record_by p d) x

unfoldable pub is_host : Source → Bool
is_host Source.Defmt = false
is_host Source.Host = true

-- a message that is never formatted: a host's, or one that is laid out
unfoldable pub bare_message : Record → Bool
bare_message r = is_host r.source || is_there (comparison_of r)

-- the same by what is lent
unfoldable pub bare_by : Shown → Bool
bare_by p = is_host (source_by p) || has_comparison p

-- where messages are bare or not
unfoldable pub bare_from : Bool → LogMetadata → Bool
bare_from b CrateName = false
bare_from b (FileName n) = false
bare_from b FilePath = false
bare_from b LineNumber = false
bare_from b Log = b
bare_from b LogLevel = false
bare_from b ModulePath = false
bare_from b Timestamp = false
bare_from b HeadSerial = false

-- a segment that is never formatted: a text, or such a message
unfoldable pub is_bare : Bool → LogSegment → Bool
is_bare b (text i j) = true
is_bare b (specifier m f) = bare_from b m
is_bare b (group x f) = false

-- the format of any other
unfoldable pub format_of : Level → LogSegment → Format
format_of l (text i j) = group_format l unformatted
format_of l (specifier m f) = specifier_format l m f
format_of l (group x f) = group_format l f
