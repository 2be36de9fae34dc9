-- `wording::fixed::place_of` meets its contract, name by name. Assumes nothing.
use borrow.Author.Rules.{rules}
use mathlib.Core.Path.{ap, sym}
use Rattle.record.specs.Levels.{level_name}
use Rattle.wording.specs.Names.{names}
use Rattle.wording.proofs.fixed.place_of.Goals as goal

pub returns-in-Error : goal.returns-in-Error
unfolding names
returns-in-Error c = record { ordered = search rules; within = search rules; text = ap level_name (sym c.in-Error.is) }

pub returns-in-Warn : goal.returns-in-Warn
unfolding names
returns-in-Warn c = record { ordered = search rules; within = search rules; text = ap level_name (sym c.in-Warn.is) }

pub returns-in-Info : goal.returns-in-Info
unfolding names
returns-in-Info c = record { ordered = search rules; within = search rules; text = ap level_name (sym c.in-Info.is) }

pub returns-in-Debug : goal.returns-in-Debug
unfolding names
returns-in-Debug c = record { ordered = search rules; within = search rules; text = ap level_name (sym c.in-Debug.is) }

pub returns-in-Trace : goal.returns-in-Trace
unfolding names
returns-in-Trace c = record { ordered = search rules; within = search rules; text = ap level_name (sym c.in-Trace.is) }
