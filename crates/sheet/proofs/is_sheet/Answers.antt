-- `sheet::is_sheet` meets its contract. Assumes nothing.
use Rattle.std.proofs.Common.{ℕ, ◌≡◌, ◌+◌, ◌-◌, ◌*◌, ◌<◌, List, Bool, true, false, ◌&&◌, sym, ap, ◌∙◌, arith}
use Rattle.buffer.specs.Bytes.{part}
use Rattle.record.specs.declared.Form.{Form}
use Rattle.sheet.specs.Sheets.{contents_end, body_bytes, bodies_from, is_head, form_in, are_records, is_sheet}
use Rattle.sheet.proofs.Standing.{too_long_lem, too_short, no_body, cut_off, not_whole, contents_end_lem}
use Rattle.sheet.proofs.Heads.{has_byte, head_form}
use Rattle.sheet.proofs.Reading.{Read, read_at, first_fits, others_left, left_to_see}
use Rattle.sheet.proofs.is_sheet.Goals as goal
use Rattle.sheet.proofs.is_sheet.Goals.{then-d-lt2-via-then-d-lt2, then-d-lt2-via-else-d-lt2+then-d-gt65536, then-n-eq0-via-then-n-eq0, then-n-eq0-via-else-n-eq0+then-d-from}

-- the verdict on body 0, then the one on the records
module _ (d : List ℕ) (n k : ℕ) (r : Read d n k) where
  seen : (head : Bool) → head ≡ is_head (part (2 + 4 * n) (2 + 4 * n + k) d)
      → (head && are_records (form_in (part (2 + 4 * n) (2 + 4 * n + k) d)) (bodies_from (n - 1) d 6 (2 + 4 * n + k))) ≡ is_sheet d
  seen head e =
      ap (λ (t : Bool). t && are_records (form_in (part (2 + 4 * n) (2 + 4 * n + k) d)) (bodies_from (n - 1) d 6 (2 + 4 * n + k))) e ∙ sym (left_to_see d n k r)

  -- where body 0 can be one: it has a byte
  some_byte : (head : Bool) → head ≡ is_head (part (2 + 4 * n) (2 + 4 * n + k) d) → head ≡ true → 0 < k
  some_byte head e t = has_byte d (2 + 4 * n) k (first_fits d n k r) (sym e ∙ t)

pub returns-then-d-lt2 : goal.returns-then-d-lt2
returns-then-d-lt2 c = elim c.then-d-lt2.branch [
  | then-d-lt2-via-then-d-lt2 w ↦ sym (too_short c.args.d.now (omega (arith, w.if-d-lt2.true)) w.if-d-lt2.true)
  | then-d-lt2-via-else-d-lt2+then-d-gt65536 w ↦ sym (too_long_lem c.args.d.now w.if-d-gt65536.true)
]

pub returns-then-n-eq0 : goal.returns-then-n-eq0
returns-then-n-eq0 c =
    let d = c.args.d.now in
    let n = c.body_count-n.ensures.0 in
    elim c.then-n-eq0.branch [
      | then-n-eq0-via-then-n-eq0 w ↦ sym (no_body d c.if-d-gt65536.false c.if-d-lt2.false (omega (arith, n, w.if-n-eq0.true)))
      | then-n-eq0-via-else-n-eq0+then-d-from w ↦
          sym (cut_off d c.if-d-gt65536.false c.if-d-lt2.false (omega (arith, n, w.if-n-eq0.false)) (omega (arith, n, w.if-d-from.true, contents_end_lem d)))
    ]

pub returns-then-bodies_end-d : goal.returns-then-bodies_end-d
returns-then-bodies_end-d c =
    let d = c.args.d.now in
    let n = c.body_count-n.ensures.0 in
    let from : contents_end d ≡ 2 + 4 * c.body_count-n.result = omega (arith, n, contents_end_lem d) in
    let all = ap (λ (x : ℕ). body_bytes x d 2) n in
    sym (not_whole d c.if-d-gt65536.false c.if-d-lt2.false (omega (arith, n, c.if-n-eq0.false)) (omega (arith, from, c.if-d-from.false))
    (λ whole. c.if-bodies_end-d.true (omega (arith, whole, from, all, c.bodies_end.ensures))))

pub slice_bounds-is_head-end : goal.slice_bounds-is_head-end
slice_bounds-is_head-end c =
    let d = c.args.d.now in
    let n = c.body_count-n.result in
    let k = c.body_length.result in
    let r = read_at d n c.bodies_end.result k c.if-d-gt65536.false c.body_count-n.ensures c.if-n-eq0.false c.if-d-from.false c.bodies_end.ensures c.if-bodies_end-d.false c.body_length.ensures in
    first_fits d n k r

pub bounds-d-from : goal.bounds-d-from
bounds-d-from c =
    let d = c.args.d.now in
    let n = c.body_count-n.result in
    let k = c.body_length.result in
    let r = read_at d n c.bodies_end.result k c.if-d-gt65536.false c.body_count-n.ensures c.if-n-eq0.false c.if-d-from.false c.bodies_end.ensures c.if-bodies_end-d.false c.body_length.ensures in
    omega (arith, first_fits d n k r, some_byte d n k r _ c.is_head.ensures c.if-is_head.true)

pub are_records-requires : goal.are_records-requires
are_records-requires c =
    let d = c.args.d.now in
    let n = c.body_count-n.result in
    let k = c.body_length.result in
    let r = read_at d n c.bodies_end.result k c.if-d-gt65536.false c.body_count-n.ensures c.if-n-eq0.false c.if-d-from.false c.bodies_end.ensures c.if-bodies_end-d.false c.body_length.ensures in
    let l = others_left d n k r in
    (l.lengths, l.whole)

pub returns-then-is_head : goal.returns-then-is_head
returns-then-is_head c =
    let d = c.args.d.now in
    let n = c.body_count-n.result in
    let k = c.body_length.result in
    let r = read_at d n c.bodies_end.result k c.if-d-gt65536.false c.body_count-n.ensures c.if-n-eq0.false c.if-d-from.false c.bodies_end.ensures c.if-bodies_end-d.false c.body_length.ensures in
    let b = some_byte d n k r _ c.is_head.ensures c.if-is_head.true in
    let form = c.form_of.ensures ∙ sym (head_form d (2 + 4 * n) k (first_fits d n k r) b) in
    c.are_records.ensures
    ∙ ap (λ (f : Form). are_records f (bodies_from (n - 1) d 6 (2 + 4 * n + k))) form
    ∙ seen d n k r true (sym c.if-is_head.true ∙ c.is_head.ensures)

pub returns-else-is_head : goal.returns-else-is_head
returns-else-is_head c =
    let d = c.args.d.now in
    let n = c.body_count-n.result in
    let k = c.body_length.result in
    let r = read_at d n c.bodies_end.result k c.if-d-gt65536.false c.body_count-n.ensures c.if-n-eq0.false c.if-d-from.false c.bodies_end.ensures c.if-bodies_end-d.false c.body_length.ensures in
    c.if-is_head.false ∙ seen d n k r false (sym c.if-is_head.false ∙ c.is_head.ensures)
