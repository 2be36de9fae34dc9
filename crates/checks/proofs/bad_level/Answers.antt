-- `checks::bad_level` meets its contract: what a number means settles the tests of it. Assumes nothing.
use Rattle.record.proofs.LevelNumbers.{numbered}
use Rattle.checks.proofs.Refusing.{of_print, of_level, of_refused}
use Rattle.checks.proofs.bad_level.Goals as goal

pub returns-in-Print : goal.returns-in-Print
returns-in-Print c = of_print c.args.source _ (numbered _ _ _ c.level_of.ensures c.in-Print.is)

pub returns-in-Named : goal.returns-in-Named
returns-in-Named c = of_level c.args.source _ (numbered _ _ _ c.level_of.ensures c.in-Named.is)

pub returns-in-Refused : goal.returns-in-Refused
returns-in-Refused c = of_refused c.args.source _ (numbered _ _ _ c.level_of.ensures c.in-Refused.is)
