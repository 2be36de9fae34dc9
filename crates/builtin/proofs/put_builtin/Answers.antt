-- `builtin::put_builtin` meets its contract. Assumes nothing.
use native.Mathlib.Omega.{arith}
use mathlib.Core.Path.{ap, ◌∙◌}
use lib.ListN.{length}
use Rattle.buffer.specs.Buffer.{written}
use Rattle.builtin.proofs.Choosing.{row_below, row_plain, row_for_host}
use Rattle.builtin.proofs.put_builtin.Goals as goal

pub put_row_for_host-requires : goal.put_row_for_host-requires
put_row_for_host-requires c = omega (arith, c.row_of-k.ensures, row_below c.args.style c.args.location c.args.timestamp)

pub returns-then-host : goal.returns-then-host
returns-then-host c =
    let e = row_for_host c.row_of-k.result c.args.style c.args.location c.args.timestamp c.args.host c.row_of-k.ensures c.if-host.true in
    (c.put_row_for_host.ensures.0 ∙ ap length e, c.put_row_for_host.ensures.1 ∙ ap (written c.args.out.now) e)

pub put_row-requires : goal.put_row-requires
put_row-requires c = omega (arith, c.row_of-k.ensures, row_below c.args.style c.args.location c.args.timestamp)

pub returns : goal.returns
returns c =
    let e = row_plain c.row_of-k.result c.args.style c.args.location c.args.timestamp c.args.host c.row_of-k.ensures c.if-host.false in
    (c.put_row.ensures.0 ∙ ap length e, c.put_row.ensures.1 ∙ ap (written c.args.out.now) e)
