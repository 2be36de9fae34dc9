-- `builtin::is_yes` meets its contract. Assumes nothing.
use mathlib.Core.Path.{refl}
use Rattle.builtin.specs.Choices.{is_yes}
use Rattle.builtin.proofs.is_yes.Goals as goal

pub returns : goal.returns
unfolding is_yes
returns c = refl
