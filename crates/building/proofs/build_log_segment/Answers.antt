-- `build_log_segment` meets its contract. Assumes nothing.
use Rattle.building.proofs.Making.{taken_fitted, nothing_made}
use Rattle.building.proofs.Bounds.{keeps_count}
use Rattle.words.specs.Within.{Fitting}
use mathlib.Core.Path.{refl}
use Rattle.building.proofs.build_log_segment.Goals as goal

pub returns-in-Nothing-clause-keeps : goal.returns-in-Nothing-clause-keeps
unfolding Fitting
returns-in-Nothing-clause-keeps c = λ lo to n d h g w. keeps_count _ _ _ _ _ _ _ _ _ (c.make_specified.ensures.keeps lo to d h g tt) (nothing_made _ _ _ _ _ w c.in-Nothing.is)

pub returns-else-is_some-clause-keeps : goal.returns-else-is_some-clause-keeps
unfolding Fitting
returns-else-is_some-clause-keeps c = λ lo to n d h g w. record { front = refl; within = taken_fitted _ _ _ _ _ w c.in-One.is lo to _ h g }
