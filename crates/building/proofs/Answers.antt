-- What a `?` hands on. Assumes nothing.
use mathlib.Core.Path.{◌≡◌, ap}
use Rattle.std.specs.Prelude.{Ok, Err, IsErrAnd}
use Rattle.refusals.specs.declared.Refusal.{Refusal}
use Rattle.building.specs.Told.{Read}

-- the refusal itself, as `From` leaves it as it is
pub handed_on : {A : Type 0} (o : Read A) (r : Refusal) → IsErrAnd o (λ e. e ≡ r) → o ≡ Err r
handed_on (Ok p) r h = absurd h
handed_on (Err e) r h = ap Err h
