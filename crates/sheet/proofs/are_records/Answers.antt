-- `sheet::are_records` meets its contract. Assumes nothing.
use Rattle.std.proofs.Common.{ℕ, ◌+◌, ◌-◌, ◌*◌, sym, ap, ◌∙◌, arith}
use Rattle.buffer.specs.Bytes.{part}
use Rattle.record.specs.Layout.{right_size}
use Rattle.sheet.specs.Sheets.{body_bytes, bodies_from, are_records}
use Rattle.sheet.proofs.Walk.{next_fits, next_left, next_place, records_go_on, records_stop, records_end}
use Rattle.sheet.proofs.are_records.Goals as goal

pub slice_bounds-right_size-end : goal.slice_bounds-right_size-end
slice_bounds-right_size-end c =
    let k = c.loop-k.k in
    let f = next_fits (c.args.n - k) (c.args.n - (k + 1)) c.args.d.now (c.args.contents + 4 * k) c.loop-k.j (omega arith) c.loop-k.invariant.0 in
    omega (arith, f, c.body_length.ensures.0)

pub returns-then-not-right_size : goal.returns-then-not-right_size
returns-then-not-right_size c =
    let k = c.loop-k.k in
    let f = ap (λ (x : ℕ). right_size c.args.form (part c.loop-k.j (c.loop-k.j + x) c.args.d.now)) (sym c.body_length.ensures.0) ∙ sym c.right_size.ensures ∙ c.if-not-right_size.true in
    sym (records_stop (c.args.n - k) (c.args.n - (k + 1)) c.args.d.now (c.args.contents + 4 * k) c.loop-k.j (omega arith) c.args.form f) ∙ c.loop-k.invariant.1

pub loop-k-preserved : goal.loop-k-preserved
loop-k-preserved c =
    let form = c.args.form in
    let d = c.args.d.now in
    let k = c.loop-k.k in
    let left = c.args.n - k in
    let others = c.args.n - (k + 1) in
    let i = c.args.contents + 4 * k in
    let j = c.loop-k.j in
    let e = c.body_length.ensures.0 in
    let p = next_place c.args.contents k in
    let f = ap (λ (x : ℕ). right_size form (part j (j + x) d)) (sym e) ∙ sym c.right_size.ensures ∙ c.if-not-right_size.false in
    let l = next_left left others d i j (omega arith) c.loop-k.invariant.0 in (
      record { lengths = omega (arith, l.lengths); whole = omega (arith, l.whole, e, ap (body_bytes others d) p) },
      (λ m. are_records form (bodies_from others d (sym p m) (j + e m))) ∙ sym (records_go_on left others d i j (omega arith) form f) ∙ c.loop-k.invariant.1,
    )

pub returns : goal.returns
returns c = sym (records_end (c.args.n - c.loop-k.k) c.args.d.now (c.args.contents + 4 * c.loop-k.k) c.loop-k.j (omega arith) c.args.form) ∙ c.loop-k.invariant.1
