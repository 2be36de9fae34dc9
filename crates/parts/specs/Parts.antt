-- What a list of words gives: a specifier, and how it asks to be written (in the crate: `build_log_segment`). Assumes nothing.
use Rattle.std.specs.Prelude.{ℕ, Bool, true, false, ◌||◌, Option, Some, None, is_some}
use Rattle.buffer.specs.Table.{Maybe, none, some}
use Rattle.words.specs.declared.LogMetadata.{LogMetadata}
use Rattle.words.specs.declared.LogColor.{LogColor}
use Rattle.words.specs.declared.Style.{Style}
use Rattle.words.specs.declared.Alignment.{Alignment}
use Rattle.words.specs.declared.Padding.{Padding}
use Rattle.words.specs.declared.Parameter.{Parameter}
use Rattle.words.specs.declared.Styles.{Styles}
use Rattle.words.specs.declared.LogFormat.{LogFormat}
use Rattle.parts.specs.declared.Parts.{Parts}
use Rattle.segments.specs.Segments.{LogSegment, specifier}

-- no style
abbrev pub unstyled : Styles
unstyled = record { bold = false; dimmed = false; underline = false; italic = false; strike = false }

-- nothing asked
abbrev pub unformatted : LogFormat
unformatted = record { width = None; color = None; styles = unstyled; alignment = Alignment.Left; padding = Padding.Space }

-- nothing read yet
abbrev pub no_parts : Parts
no_parts = record { metadata = None; format = unformatted; twice = false }

-- "One specifier, one colour, one width, no style twice": whether one is there already
abbrev pub has_specifier : Option LogMetadata → Bool
has_specifier m = is_some m

-- a colour is asked for
abbrev pub has_colour : Option LogColor → Bool
has_colour c = is_some c

-- a width is asked for
abbrev pub has_width : Option ℕ → Bool
has_width n = is_some n

-- a style is asked for
abbrev pub has_style : Styles → Style → Bool
has_style s Style.Bold = s.bold
has_style s Style.Dimmed = s.dimmed
has_style s Style.Underline = s.underline
has_style s Style.Italic = s.italic
has_style s Style.Strike = s.strike

-- the styles with one more
abbrev pub with_style : Styles → Style → Styles
with_style s Style.Bold = record { bold = true; dimmed = s.dimmed; underline = s.underline; italic = s.italic; strike = s.strike }
with_style s Style.Dimmed = record { bold = s.bold; dimmed = true; underline = s.underline; italic = s.italic; strike = s.strike }
with_style s Style.Underline = record { bold = s.bold; dimmed = s.dimmed; underline = true; italic = s.italic; strike = s.strike }
with_style s Style.Italic = record { bold = s.bold; dimmed = s.dimmed; underline = s.underline; italic = true; strike = s.strike }
with_style s Style.Strike = record { bold = s.bold; dimmed = s.dimmed; underline = s.underline; italic = s.italic; strike = true }

-- the format with what a parameter asks
abbrev pub asking : LogFormat → Parameter → LogFormat
asking f (Parameter.Color c) = record { width = f.width; color = Some c; styles = f.styles; alignment = f.alignment; padding = f.padding }
asking f (Parameter.Style y) = record { width = f.width; color = f.color; styles = with_style f.styles y; alignment = f.alignment; padding = f.padding }
asking f (Parameter.WidthAndAlignment n z a) = record { width = Some n; color = f.color; styles = f.styles; alignment = a; padding = z }

-- whether the format asks for such a thing already
abbrev pub asks : LogFormat → Parameter → Bool
asks f (Parameter.Color c) = has_colour f.color
asks f (Parameter.Style y) = has_style f.styles y
asks f (Parameter.WidthAndAlignment n z a) = has_width f.width

-- a specifier more
unfoldable pub with_specifier : Parts → LogMetadata → Parts
with_specifier p m = record { metadata = Some m; format = p.format; twice = has_specifier p.metadata || p.twice }

-- a parameter more
unfoldable pub with_parameter : Parts → Parameter → Parts
with_parameter p a = record { metadata = p.metadata; format = asking p.format a; twice = asks p.format a || p.twice }

-- the segment that a specifier with its parameters makes, unless it is missing or anything was given twice
unfoldable pub specified : LogFormat → Option LogMetadata → Maybe LogSegment
specified f None = none
specified f (Some m) = some (specifier m f)

-- what a list of words makes: nothing where anything was given twice
unfoldable pub segment_of : Parts → Maybe LogSegment
segment_of p = elim p.twice [ true ↦ none | false ↦ specified p.format p.metadata ]
