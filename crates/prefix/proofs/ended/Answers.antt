-- `prefix::ended` meets its contract. Assumes nothing.
use mathlib.Core.Path.{ap, ◌∙◌}
use native.Mathlib.Omega.{arith}
use lib.ListN.{length, take, length-append}
use lib.Seq.{length-take-le}
use Rattle.buffer.specs.Bytes.{bytes}
use Rattle.prefix.proofs.Coding.{take_push, closed_more}
use Rattle.prefix.proofs.ended.Goals as goal

pub returns : goal.returns
returns c =
    let d = c.args.into.now in
    let n = length-take-le c.args.n d (omega (arith, c.requires)) in
    let m = closed_more (take c.args.n d) (omega (arith, n, c.if-n-eq1.false, c.requires)) in
    (take_push d c.args.n 0x6D c.requires.1 ∙ m, omega (arith, n, length-append (take c.args.n d) (bytes "m"), ap length m))
