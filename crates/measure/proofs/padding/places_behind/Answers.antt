-- `measure::padding::places_behind` meets its contract. Assumes nothing.
use Rattle.measure.proofs.Shut.{behind_seen, behind_unseen}
use Rattle.measure.proofs.padding.places_behind.Goals as goal

pub returns-then-rests : goal.returns-then-rests
returns-then-rests c = behind_seen _ c.requires _ c.if-rests.true

pub returns : goal.returns
returns c = behind_unseen _ c.requires _ c.if-rests.false
