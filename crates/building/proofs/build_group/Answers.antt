-- `build_group` meets its contract. Assumes nothing.
use Rattle.building.proofs.Making.{group_keeps}
use native.Mathlib.Omega.{arith}
use Rattle.building.proofs.build_group.Goals as goal

pub returns-clause-keeps : goal.returns-clause-keeps
returns-clause-keeps c = λ lo to n d h g u w. group_keeps _ _ c.args.g _ c.requires.0 (omega arith) lo to _ h g c.put_group.ensures.adds c.put_group.ensures.ends n d w u
