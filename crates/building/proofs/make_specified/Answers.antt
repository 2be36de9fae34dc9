-- `make_specified` meets its contract. Assumes nothing.
use Rattle.building.proofs.Making.{words_told, specifier_keeps}
use native.Mathlib.Omega.{arith}
use Rattle.building.proofs.make_specified.Goals as goal

pub returns-clause-cells_after : goal.returns-clause-cells_after
returns-clause-cells_after c = words_told _ _ _ _ _ _ _ _ c.if-p.false c.in-Some.is (omega arith) c.put_specifier.ensures

pub returns-clause-keeps : goal.returns-clause-keeps
returns-clause-keeps c = λ lo to d h g w. specifier_keeps _ _ _ _ c.requires.0 (omega arith) lo to _ h g _ c.args.p c.put_specifier.ensures c.requires.1 d
