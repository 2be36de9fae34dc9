-- `measure::seeing::places_let_go` meets its contract. Assumes nothing.
use Rattle.measure.proofs.Shut.{none_held, some_held}
use Rattle.measure.proofs.seeing.places_let_go.Goals as goal

pub returns-then-held-eq0 : goal.returns-then-held-eq0
returns-then-held-eq0 c = none_held _ c.requires _ c.if-held-eq0.true

pub returns : goal.returns
returns c = some_held _ c.requires _ c.if-held-eq0.false
