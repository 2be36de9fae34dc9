-- `sheet::bodies_end` meets its contract. Assumes nothing.
use Rattle.std.proofs.Common.{◌+◌, ◌-◌, ◌*◌, ap, arith}
use Rattle.sheet.specs.Sheets.{body_bytes}
use Rattle.sheet.proofs.Walk.{bytes_next, bytes_end, next_place}
use Rattle.sheet.proofs.bodies_end.Goals as goal

pub loop-k-preserved : goal.loop-k-preserved
loop-k-preserved c =
    let d = c.args.d.now in
    let left = c.args.n - c.loop-k.k in
    let i = 2 + 4 * c.loop-k.k in
    let e = bytes_next left (c.args.n - (c.loop-k.k + 1)) d i 0 (omega arith) in
    let p = ap (body_bytes (c.args.n - (c.loop-k.k + 1)) d) (next_place 2 c.loop-k.k) in
    omega (arith, e, p)

pub returns : goal.returns
returns c =
    let e = bytes_end (c.args.n - c.loop-k.k) c.args.d.now (2 + 4 * c.loop-k.k) 0 (omega arith) in
    omega (arith, e)
