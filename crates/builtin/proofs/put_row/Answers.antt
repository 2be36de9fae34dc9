-- `builtin::put_row` meets its contract. Assumes nothing.
use native.Mathlib.Omega.{arith}
use Prim.Native.Nat.{ℕ, ◌+◌}
use mathlib.Core.Path.{◌≡◌, sym, ap, ◌∙◌}
use mathlib.Core.List.{List}
use lib.ListN.{length, get_or}
use Rattle.buffer.specs.Bytes.{part}
use Rattle.buffer.specs.Buffer.{put_at}
use Rattle.builtin.specs.Rows.{row_text}
use native.Mathlib.Nat.{zero-add}
use Rattle.buffer.proofs.Fitting.{written_fits, written_not}
use Rattle.builtin.proofs.Rule.{table, starts, lengths, row}
use Rattle.builtin.proofs.put_row.Goals as goal

pub returns-then-out-n : goal.returns-then-out-n
returns-then-out-n c = (c.length_of-n.ensures.0, sym (written_not c.args.out.now (row_text c.args.k) (omega (arith, c.if-out-n.true, c.length_of-n.ensures.0))))

pub overflow_add-to : goal.overflow_add-to
unfolding starts lengths
overflow_add-to c =
    let r = row c.args.k c.requires in
    omega (arith, r.within, r.size, c.length_of-n.ensures.0)

pub slice_bounds-put-end : goal.slice_bounds-put-end
unfolding starts lengths table
slice_bounds-put-end c =
    let r = row c.args.k c.requires in
    omega (arith, r.within, r.size, c.length_of-n.ensures.0)

pub returns : goal.returns
unfolding starts lengths table
returns c =
    let k = c.args.k in
    let r = row k c.requires in
    let x = c.length_of-n.ensures.0 ∙ sym r.size in
    let t : part (get_or starts k 0) (get_or starts k 0 + c.length_of-n.result) table ≡ row_text k =
    ap (λ (m : ℕ). part (get_or starts k 0) (get_or starts k 0 + m) table) x ∙ r.text in (
      c.put.ensures.0 ∙ ap (λ (x : List ℕ). 0 + length x) t ∙ zero-add (length (row_text k)),
      c.put.ensures.1 ∙ ap (put_at c.args.out.now 0) t ∙ sym (written_fits c.args.out.now (row_text k) (omega (arith, c.length_of-n.ensures.0, c.if-out-n.false))),
    )
