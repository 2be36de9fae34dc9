-- The format of a specifier or a group, with defaults and the level's colour resolved (document 01, "Building a line"). Assumes nothing.
use Rattle.std.specs.Prelude.{ℕ, Option, Some, None}
use Rattle.words.specs.declared.Color.{Color}
use Rattle.words.specs.declared.LogMetadata.{LogMetadata}
use Rattle.words.specs.declared.LogMetadata.TheVariants.{CrateName, FileName, FilePath, LineNumber, Log, LogLevel, ModulePath, Timestamp, HeadSerial}
use Rattle.words.specs.declared.LogFormat.{LogFormat}
use Rattle.colour.specs.declared.Format.{Format}
use Rattle.record.specs.declared.Level.{Level}
use Rattle.formats.specs.Levels.{severity, ink_for}

-- "Default widths: `{L}` 5, `{l}` 4, others 0"
abbrev pub default_width : LogMetadata → ℕ
default_width CrateName = 0
default_width (FileName n) = 0
default_width FilePath = 0
default_width LineNumber = 4
default_width Log = 0
default_width LogLevel = 5
default_width ModulePath = 0
default_width Timestamp = 0
default_width HeadSerial = 0

-- "`{L}` takes its level's colour unless another is asked"
abbrev pub own_ink : Level → LogMetadata → Option Color
own_ink l CrateName = None
own_ink l (FileName n) = None
own_ink l FilePath = None
own_ink l LineNumber = None
own_ink l Log = None
own_ink l LogLevel = severity l
own_ink l ModulePath = None
own_ink l Timestamp = None
own_ink l HeadSerial = None

-- the width asked for, or the default one
abbrev pub width_for : ℕ → Option ℕ → ℕ
width_for default None = default
width_for default (Some n) = n

-- what is asked, with a default width and a colour of its own
unfoldable pub format_for : Level → ℕ → Option Color → LogFormat → Format
format_for l default own f = record {
  width = width_for default f.width;
  alignment = f.alignment;
  padding = f.padding;
  look = record { styles = f.styles; ink = ink_for l own f.color };
}

-- the format of a specifier, for a level
abbrev pub specifier_format : Level → LogMetadata → LogFormat → Format
specifier_format l m f = format_for l (default_width m) (own_ink l m) f

-- the format of a group, for a level: no default width, no colour of its own
abbrev pub group_format : Level → LogFormat → Format
group_format l f = format_for l 0 None f
