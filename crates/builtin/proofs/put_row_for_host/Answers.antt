-- `builtin::put_row_for_host` meets its contract. Assumes nothing.
use native.Mathlib.Omega.{arith}
use Prim.Native.Nat.{◌+◌, ◌≤◌}
use mathlib.Core.Path.{◌≡◌, sym, ◌∙◌}
use mathlib.Core.List.{◌++◌}
use lib.ListN.{length, length-append}
use Rattle.buffer.specs.Bytes.{bytes}
use Rattle.buffer.proofs.Writing.{join}
use Rattle.builtin.specs.Rows.{row_text}
use Rattle.buffer.proofs.Fitting.{written_fits, written_not}
use Rattle.builtin.proofs.put_row_for_host.Goals as goal

pub returns-then-out-n : goal.returns-then-out-n
returns-then-out-n c =
    let k = c.args.k in
    let e : length (row_text k ++ bytes " (HOST)") ≡ length (row_text k) + 7 = length-append (row_text k) (bytes " (HOST)") in
    (omega (arith, e, c.length_of-n.ensures.0), sym (written_not c.args.out.now (row_text k ++ bytes " (HOST)") (omega (arith, e, c.length_of-n.ensures.0, c.if-out-n.true))))

pub returns : goal.returns
returns c =
    let d = c.args.out.now in
    let k = c.args.k in
    let e : length (row_text k ++ bytes " (HOST)") ≡ length (row_text k) + 7 = length-append (row_text k) (bytes " (HOST)") in
    let room : length (row_text k) + 7 ≤ length d = omega (arith, c.length_of-n.ensures.0, c.if-out-n.false) in (
      omega (arith, e, c.put_row-at.ensures.0, c.put.ensures.0),
      join d c.put_row-at.new.out c.put.new.dst 0 c.put_row-at.result (row_text k) (bytes " (HOST)")
          (c.put_row-at.ensures.1 ∙ written_fits d (row_text k) (omega (arith, room)))
          c.put.ensures.1
          (omega (arith, c.put_row-at.ensures.0))
          (omega (arith, room))
          ∙ sym (written_fits d (row_text k ++ bytes " (HOST)") (omega (arith, e, room))),
    )
