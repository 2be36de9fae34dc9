-- Scaffolding, for proofs alone: what a specifier shows before it is formatted, as the code goes about it. Assumes nothing.
use Rattle.std.specs.Prelude.{ℕ, Bool, true, false, Option, None, List}
use Rattle.buffer.specs.Table.{Maybe, none, some}
use Rattle.words.specs.declared.LogMetadata.{LogMetadata}
use Rattle.words.specs.declared.LogMetadata.TheVariants.{CrateName, FileName, FilePath, LineNumber, Log, LogLevel, ModulePath, Timestamp, HeadSerial}
use Rattle.colour.specs.declared.Settings.{Settings}
use Rattle.colour.specs.Shown.{joined}
use Rattle.record.specs.Records.{Record}
use Rattle.comparisons.specs.declared.Spans.{Spans}
use Rattle.comparisons.specs.Comparisons.{Comparison, layout}
use Rattle.fields.specs.Texts.{wording}
use Rattle.fields.specs.Lines.{comparison_of}
use Rattle.leaves.specs.declared.Shown.{Shown}

-- whether there is a comparison
unfoldable pub is_there : Maybe Comparison → Bool
is_there none = false
is_there (some c) = true

-- a message, laid out where it is a comparison
unfoldable pub message_text : Settings → List ℕ → Maybe Comparison → List ℕ
message_text s m none = m
message_text s m (some c) = joined s (layout c)

-- what the specifier m shows
unfoldable pub field_text : Settings → Record → LogMetadata → List ℕ
field_text s r CrateName = wording r CrateName
field_text s r (FileName n) = wording r (FileName n)
field_text s r FilePath = wording r FilePath
field_text s r LineNumber = wording r LineNumber
field_text s r Log = message_text s r.message (comparison_of r)
field_text s r LogLevel = wording r LogLevel
field_text s r ModulePath = wording r ModulePath
field_text s r Timestamp = wording r Timestamp
field_text s r HeadSerial = wording r HeadSerial

-- the places of the comparison that the specifier m shows
unfoldable pub laid : Shown → LogMetadata → Option Spans
laid x CrateName = None
laid x (FileName k) = None
laid x FilePath = None
laid x LineNumber = None
laid x Log = x.spans
laid x LogLevel = None
laid x ModulePath = None
laid x Timestamp = None
laid x HeadSerial = None
