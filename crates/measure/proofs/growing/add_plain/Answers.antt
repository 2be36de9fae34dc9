-- `measure::growing::add_plain` meets its contract. Assumes nothing.
use Rattle.measure.proofs.Plain.{grown_plain}
use Rattle.measure.proofs.growing.add_plain.Goals as goal

pub returns : goal.returns
returns c = grown_plain c.args.a c.args.s.now c.eye_past.result c.requires.held_value.0 c.requires.held_value.1 c.eye_past.ensures
