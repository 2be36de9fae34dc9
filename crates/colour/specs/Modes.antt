-- The three modes of a line: plain, in straight colour, in the crate's colour. Assumes nothing.
use Rattle.std.specs.Prelude.{true, false}
use Rattle.widths.specs.declared.Rule.{Rule}
use Rattle.colour.specs.declared.Settings.{Settings}

-- no settings bit
abbrev pub off : Settings
off = record { colour = false; straight = false; rule = Rule.Characters }

-- no settings bit, but by that rule
abbrev pub off_by : Rule → Settings
off_by rule = record { colour = false; straight = false; rule = rule }

-- the same settings with colour off
abbrev pub plain : Settings → Settings
plain s = record { colour = false; straight = s.straight; rule = s.rule }

-- the same settings with colour on, in straight mode
abbrev pub straight : Settings → Settings
straight s = record { colour = true; straight = true; rule = s.rule }

-- the same settings with colour on, in the crate's mode
abbrev pub coloured : Settings → Settings
coloured s = record { colour = true; straight = false; rule = s.rule }
