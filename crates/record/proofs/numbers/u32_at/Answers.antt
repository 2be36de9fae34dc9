-- `record::numbers::u32_at` meets its contract. Assumes nothing.
use native.Mathlib.Omega.{arith}
use Rattle.record.proofs.Sizes.{u32_bytes}
use Rattle.record.proofs.numbers.u32_at.Goals as goal

pub returns : goal.returns
returns c = (omega (arith, u32_bytes c.args.d.now c.args.i), omega arith)
