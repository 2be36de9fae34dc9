-- `prefix::with_style` meets its contract. Assumes nothing.
use Rattle.prefix.proofs.Coding.{one_code, no_code}
use Rattle.prefix.proofs.with_style.Goals as goal

pub returns-then-on : goal.returns-then-on
returns-then-on c = rw c.if-on.true (one_code c.args.into.now c.args.n c.separator.result c.args.code c.requires.0 c.requires.1 c.separator.ensures)

pub returns : goal.returns
returns c = rw c.if-on.false (no_code c.args.into.now c.args.n c.args.code)
