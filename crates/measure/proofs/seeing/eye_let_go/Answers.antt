-- `measure::seeing::eye_let_go` meets its contract. Assumes nothing.
use Rattle.measure.proofs.Shut.{shut_let_go}
use Rattle.measure.proofs.seeing.eye_let_go.Goals as goal

pub returns-in-Characters : goal.returns-in-Characters
returns-in-Characters c = shut_let_go _ _ c.in-Characters.is
