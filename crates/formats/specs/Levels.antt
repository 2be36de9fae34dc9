-- The colour that a level gives, and where it applies (document 01, "Building a line"). Assumes nothing.
use Rattle.std.specs.Prelude.{Option, Some, None}
use Rattle.words.specs.declared.Color.{Color}
use Rattle.words.specs.declared.LogColor.{LogColor}
use Rattle.record.specs.declared.Name.TheVariants.{Error, Warn, Info, Debug, Trace}
use Rattle.record.specs.declared.Level.{Level}
use Rattle.record.specs.declared.Level.TheVariants.{Print, Named, Refused}

-- "coloured red, yellow, green, bright white, bright black": the colour beside the name in the table of levels
abbrev pub severity : Level → Option Color
severity Print = None
severity (Named n c) = Some c
severity Refused = None

-- "`werror` colours 1 and 2 only"
abbrev pub warning : Level → Option Color
warning Print = None
warning (Named Error c) = Some c
warning (Named Warn c) = Some c
warning (Named Info c) = None
warning (Named Debug c) = None
warning (Named Trace c) = None
warning Refused = None

-- the colour that applies where one is asked for, or a specifier's own where none is
abbrev pub ink_for : Level → Option Color → Option LogColor → Option Color
ink_for l own None = own
ink_for l own (Some (LogColor.Color c)) = Some c
ink_for l own (Some LogColor.SeverityLevel) = severity l
ink_for l own (Some LogColor.WarnError) = warning l
