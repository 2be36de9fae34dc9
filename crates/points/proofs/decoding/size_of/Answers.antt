-- `points::decoding::size_of` meets its contract. Assumes nothing.
use native.Mathlib.Omega.{arith}
use mathlib.Core.Path.{sym}
use Rattle.points.proofs.Decoded.{size_one, size_two, size_three, size_four}
use Rattle.points.proofs.decoding.size_of.Goals as goal

pub returns-in-0-to-191 : goal.returns-in-0-to-191
returns-in-0-to-191 c = (sym (size_one _ (omega arith)), omega arith)

pub returns-in-192-to-223 : goal.returns-in-192-to-223
returns-in-192-to-223 c = (sym (size_two _ (omega arith) (omega arith)), omega arith)

pub returns-in-224-to-239 : goal.returns-in-224-to-239
returns-in-224-to-239 c = (sym (size_three _ (omega arith) (omega arith)), omega arith)

pub returns-in_default : goal.returns-in_default
returns-in_default c = (sym (size_four _ (omega arith)), omega arith)
