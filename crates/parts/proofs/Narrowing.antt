-- A list of words asks for 512 columns at most, since no word asks for more. Assumes nothing.
use Rattle.words.specs.declared.LogMetadata.{LogMetadata}
use Rattle.words.specs.declared.Parameter.{Parameter}
use Rattle.words.specs.Within.{Wide}
use Rattle.segments.specs.Sizes.{Narrow}
use Rattle.parts.specs.declared.Parts.{Parts}
use Rattle.parts.specs.Parts.{with_specifier, with_parameter}

pub narrow_specifier : (p : Parts) (m : LogMetadata) → Narrow p.format.width → Narrow (with_specifier p m).format.width
unfolding with_specifier
narrow_specifier p m h = h

pub narrow_parameter : (p : Parts) (a : Parameter) → Narrow p.format.width → Wide a → Narrow (with_parameter p a).format.width
unfolding with_parameter
narrow_parameter p (Parameter.Color c) h w = h
narrow_parameter p (Parameter.Style y) h w = h
narrow_parameter p (Parameter.WidthAndAlignment n z a) h w = w
