-- `measure::additions::inserted_in` meets its contract. Assumes nothing.
use native.Mathlib.Omega.{arith}
use mathlib.Core.Path.{ap}
use Prim.Native.Nat.{ℕ, ◌*◌}
use native.Mathlib.Nat.{mul-le-mul_left}
use Rattle.measure.specs.Measures.{inserted_in}
use Rattle.measure.proofs.additions.inserted_in.Goals as goal

pub overflow_mul-result : goal.overflow_mul-result
overflow_mul-result c = omega (arith, mul-le-mul_left c.args.x.scan.resets c.prefix_len.ensures.1)

pub returns : goal.returns
unfolding inserted_in
returns c = ap (λ (n : ℕ). c.args.x.scan.resets * n) c.prefix_len.ensures.0
