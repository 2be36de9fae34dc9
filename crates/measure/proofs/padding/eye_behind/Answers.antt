-- `measure::padding::eye_behind` meets its contract. Assumes nothing.
use mathlib.Core.Path.{ap, ◌∙◌}
use mathlib.Core.Bool.{Bool}
use Rattle.measure.specs.Measures.{behind_padding}
use Rattle.measure.proofs.Shut.{shut_behind}
use Rattle.measure.proofs.padding.eye_behind.Goals as goal

pub returns-in-Characters : goal.returns-in-Characters
returns-in-Characters c = shut_behind _ _ c.in-Characters.is

pub returns-in-Places : goal.returns-in-Places
returns-in-Places c = c.places_behind.ensures ∙ ap (λ (b : Bool). behind_padding c.args.e b) c.rests.ensures
