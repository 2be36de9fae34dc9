-- `record::numbers::u16_at` meets its contract. Assumes nothing.
use native.Mathlib.Omega.{arith}
use Rattle.record.proofs.Sizes.{u16_bytes}
use Rattle.record.proofs.numbers.u16_at.Goals as goal

pub returns : goal.returns
returns c = (omega (arith, u16_bytes c.args.d.now c.args.i), omega arith)
