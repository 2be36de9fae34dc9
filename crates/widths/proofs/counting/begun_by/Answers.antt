-- `widths::counting::begun_by` meets its contract. Assumes nothing.
use native.Mathlib.Omega.{arith}
use Prim.Native.Nat.{◌-◌}
use Rattle.widths.proofs.Running.{size_few}
use Rattle.widths.proofs.counting.begun_by.Goals as goal

pub overflow_cast-result : goal.overflow_cast-result
overflow_cast-result c = omega (arith, size_few c.args.b, c.size_of.ensures.0)

pub returns : goal.returns
returns c = λ i. record { awaited = c.size_of.ensures.0 i - 1; bits = c.leading.ensures i }
