-- `prefix::with_ink` meets its contract. Assumes nothing.
use native.Mathlib.Omega.{arith}
use lib.ListN.{take}
use Rattle.prefix.specs.Opening.{between}
use Rattle.prefix.proofs.Coding.{ink_code, no_ink}
use Rattle.prefix.proofs.with_ink.Goals as goal

pub returns-in_default : goal.returns-in_default
returns-in_default c = rw c.in_default.is (no_ink (take c.args.n c.args.into.now) (between c.args.n), (omega arith, omega arith))

pub returns : goal.returns
returns c = rw c.in-Some.is (ink_code c.args.into.now c.args.n c.separator.result c.foreground.result c.in-Some.c c.requires c.separator.ensures c.foreground.ensures, (omega arith, omega arith))
