-- `fields::build_timestamp` meets its contract: a device's timestamp that has a byte is shown. Assumes nothing.
use mathlib.Core.Path.{sym, ◌∙◌}
use Rattle.fields.proofs.Texts.{time_there}
use Rattle.fields.proofs.build_timestamp.Goals as goal

pub returns-in-Defmt : goal.returns-in-Defmt
returns-in-Defmt c = λ d w. (time_there c.args.p d (sym c.source_of.ensures ∙ c.in-Defmt.is) c.if-p.true w.timestamp.1, w.timestamp)
