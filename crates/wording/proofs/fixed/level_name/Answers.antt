-- `wording::fixed::level_name` meets its contract. Assumes nothing.
use Rattle.wording.specs.Names.{names}
use Rattle.wording.proofs.fixed.level_name.Goals as goal

pub returns : goal.returns
unfolding names
returns c = c.place_of-from.ensures.text
