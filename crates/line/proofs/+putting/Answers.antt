-- `line::put_join`, `line::put_raw` and `line::put_seg` meet their contracts. Assumes nothing.
use Rattle.std.proofs.Common.{◌≡◌, ℕ, ◌+◌, ◌-◌, List, false, arith, ap, length, refl, sym, ◌∙◌}
use Rattle.buffer.specs.Bytes.{part}
use Rattle.buffer.specs.Buffer.{put_at}
use Rattle.buffer.proofs.Writing.{part_put}
use Rattle.colour.specs.Sequences.{reinserted}
use Rattle.colour.specs.Looks.{prefix}
use Rattle.measure.specs.declared.sink.Place.{Place}
use Rattle.segments.specs.Pool.{kind_at}
use Rattle.members.proofs.Linking.{on_end}
use Rattle.members.proofs.Forwards.{member_next}
use Rattle.rows.specs.Materials.{record_in, segment_in, raw_in}
use Rattle.rows.proofs.Linking.{on_shorter}
use Rattle.rows.proofs.Depths.{group_deep, members_low, member_low}
use Rattle.rows.proofs.Segments.{written_none, written_step}
use Rattle.rows.proofs.Materials.{known_less, raw_text_is, raw_members_are, raw_field_is, bare_is, framed_at, room_is}
use Rattle.dress.proofs.Framing.{opening, framed_length, inserted_none}
use Rattle.dress.proofs.Placing.{put_plain, ending_none, ending_four, dressed_place, put_dressed}
use Rattle.line.proofs.+putting.Goals as goal

-- ---- put_join

pub put_join-loop-j-init : goal.put_join-loop-j-init
put_join-loop-j-init t c =
    let m = c.args.m.now in
    ((omega arith, on_end m.cells.now c.args.l), written_none m.settings m.template.now (record_in m) m.cells.now 0 c.args.at c.args.out.now refl)

pub put_join-overflow_sub-j : goal.put_join-overflow_sub-j
put_join-overflow_sub-j t c =
    let m = c.args.m.now in let l = c.args.l in let k = c.member_after-j.result in
    let h = member_next m.cells.now m.links.now l c.loop-j.j k c.requires.known.forward c.loop-j-test.true c.loop-j.invariant.0.1 c.member_after-j.ensures in
    omega (arith, h.0.0)

pub put_join-put_seg-b-requires : goal.put_join-put_seg-b-requires
put_join-put_seg-b-requires t c =
    let m = c.args.m.now in let l = c.args.l in let k = c.member_after-j.result in
    let h = member_next m.cells.now m.links.now l c.loop-j.j k c.requires.known.forward c.loop-j-test.true c.loop-j.invariant.0.1 c.member_after-j.ensures in
    let r = room_is m l c.loop-j.j k h.0.0 h.1.0 h.1.1 in (
      omega (arith, c.decreases),
      (
        known_less m c.args.table.now l (k - 1 + 1) (omega (arith, h.0.0, h.0.1)) c.requires.known,
        (
          omega (arith, c.requires.l_in_bounds, c.loop-j.invariant.1.0, c.loop-j.auto.out),
          member_low m.cells.now c.args.depth l k (omega (arith, h.0.0)) h.1.0 c.requires.lows,
        ),
      ),
    )

pub put_join-loop-j-smaller : goal.put_join-loop-j-smaller
put_join-loop-j-smaller t c =
    let m = c.args.m.now in let l = c.args.l in let k = c.member_after-j.result in
    let h = member_next m.cells.now m.links.now l c.loop-j.j k c.requires.known.forward c.loop-j-test.true c.loop-j.invariant.0.1 c.member_after-j.ensures in
    omega (arith, h.0.0, h.0.1)

pub put_join-loop-j-preserved : goal.put_join-loop-j-preserved
put_join-loop-j-preserved t c =
    let m = c.args.m.now in let l = c.args.l in let k = c.member_after-j.result in
    let h = member_next m.cells.now m.links.now l c.loop-j.j k c.requires.known.forward c.loop-j-test.true c.loop-j.invariant.0.1 c.member_after-j.ensures in
    let b = c.loop-j in let w = c.put_seg-b in
    let e : k ≡ k - 1 + 1 = omega (arith, h.0.0) in (
      (h.0.1, h.1.0),
      written_step m.settings m.template.now (record_in m) m.cells.now k (k - 1) b.j c.args.at b.b w.result c.args.out.now b.out w.new.out e (sym h.1.1) b.invariant.1.0 b.invariant.1.1 w.ensures.0 w.ensures.1
          (omega (arith, c.requires.l_in_bounds, on_shorter m.cells.now m.settings m.template.now (record_in m) l k h.1.0)),
    )

-- ---- put_raw

pub put_raw-write_text-requires : goal.put_raw-write_text-requires
put_raw-write_text-requires t c =
    omega (arith, c.requires.i_in_bounds, ap length (raw_text_is c.args.m.now c.args.i (sym c.kind_at.ensures ∙ c.in-Text.is)))

pub put_raw-overflow_sub-depth : goal.put_raw-overflow_sub-depth
put_raw-overflow_sub-depth t c = group_deep c.args.m.now.cells.now c.args.depth c.args.i (sym c.kind_at.ensures ∙ c.in-Group.is) c.requires.low

pub put_raw-put_join-requires : goal.put_raw-put_join-requires
put_raw-put_join-requires t c =
    let m = c.args.m.now in let i = c.args.i in let l = c.last_at.result in
    let kg = sym c.kind_at.ensures ∙ c.in-Group.is in (
      omega (arith, c.decreases, group_deep m.cells.now c.args.depth i kg c.requires.low),
      (
        known_less m c.args.table.now i l c.last_at.ensures.1 c.requires.known,
        (
          omega (arith, c.requires.i_in_bounds, ap length (raw_members_are m i l kg c.last_at.ensures.0)),
          members_low m.cells.now c.args.depth i l kg c.last_at.ensures.0 c.requires.low,
        ),
      ),
    )

pub put_raw-put_field-requires-clause-m_in_bounds : goal.put_raw-put_field-requires-clause-m_in_bounds
put_raw-put_field-requires-clause-m_in_bounds t c =
    omega (arith, c.requires.i_in_bounds, ap length (raw_field_is c.args.m.now c.args.i _ (sym c.kind_at.ensures ∙ c.in-Specifier.is)))

pub put_raw-returns-in-Text : goal.put_raw-returns-in-Text
put_raw-returns-in-Text t c =
    let k = raw_text_is c.args.m.now c.args.i (sym c.kind_at.ensures ∙ c.in-Text.is) in
    (omega (arith, ap (λ (n : Place). n.0) c.write_text.ensures.value, ap length k), c.write_text.ensures.buffer ∙ ap (put_at c.args.out.now c.args.at) (sym k))

pub put_raw-returns-in-Group : goal.put_raw-returns-in-Group
put_raw-returns-in-Group t c =
    let k = raw_members_are c.args.m.now c.args.i c.last_at.result (sym c.kind_at.ensures ∙ c.in-Group.is) c.last_at.ensures.0 in
    (omega (arith, c.put_join.ensures.0, ap length k), c.put_join.ensures.1 ∙ ap (put_at c.args.out.now c.args.at) (sym k))

pub put_raw-returns-in-Specifier : goal.put_raw-returns-in-Specifier
put_raw-returns-in-Specifier t c =
    let k = raw_field_is c.args.m.now c.args.i _ (sym c.kind_at.ensures ∙ c.in-Specifier.is) in
    (omega (arith, c.put_field.ensures.0, ap length k), c.put_field.ensures.1 ∙ ap (put_at c.args.out.now c.args.at) (sym k))

-- ---- put_seg

pub put_seg-put_raw-requires : goal.put_seg-put_raw-requires
put_seg-put_raw-requires t c =
    let m = c.args.m.now in let i = c.args.i in
    let k = bare_is m c.requires.known.readable.lent i (sym c.is_bare.ensures ∙ c.if-is_bare.true) in (
      omega (arith, c.decreases),
      (
        known_less m c.args.table.now (i + 1) i (omega arith) c.requires.known,
        (
          omega (arith, c.requires.known.readable.few),
          (omega (arith, c.requires.i_in_bounds, ap length k), c.requires.low),
        ),
      ),
    )

pub put_seg-returns-then-is_bare : goal.put_seg-returns-then-is_bare
put_seg-returns-then-is_bare t c =
    let k = bare_is c.args.m.now c.requires.known.readable.lent c.args.i (sym c.is_bare.ensures ∙ c.if-is_bare.true) in
    (omega (arith, c.put_raw.ensures.0, ap length k), c.put_raw.ensures.1 ∙ ap (put_at c.args.out.now c.args.at) (sym k))

pub put_seg-fill-b-requires : goal.put_seg-fill-b-requires
put_seg-fill-b-requires t c =
    let m = c.args.m.now in let i = c.args.i in let w = c.frame_at-w.result in let x = raw_in m i in let y = segment_in m i in
    let h = framed_at m c.args.table.now i w c.requires.known (sym c.is_bare.ensures ∙ c.if-is_bare.false) c.frame_at-w.ensures in
    let fl = framed_length m.settings w x y h in
    omega (arith, c.requires.i_in_bounds)

pub put_seg-put_raw-e-requires : goal.put_seg-put_raw-e-requires
put_seg-put_raw-e-requires t c =
    let m = c.args.m.now in let i = c.args.i in let w = c.frame_at-w.result in let x = raw_in m i in let y = segment_in m i in
    let h = framed_at m c.args.table.now i w c.requires.known (sym c.is_bare.ensures ∙ c.if-is_bare.false) c.frame_at-w.ensures in
    let fl = framed_length m.settings w x y h in (
      omega (arith, c.decreases),
      (
        known_less m c.args.table.now (i + 1) i (omega arith) c.requires.known,
        (
          omega (arith, c.requires.known.readable.few),
          (omega (arith, c.requires.i_in_bounds, c.fill-b.ensures.0, c.fill-b.auto.dst), c.requires.low),
        ),
      ),
    )

pub put_seg-fill-requires : goal.put_seg-fill-requires
put_seg-fill-requires t c =
    let m = c.args.m.now in let i = c.args.i in let w = c.frame_at-w.result in let x = raw_in m i in let y = segment_in m i in
    let h = framed_at m c.args.table.now i w c.requires.known (sym c.is_bare.ensures ∙ c.if-is_bare.false) c.frame_at-w.ensures in
    let fl = framed_length m.settings w x y h in
    omega (arith, c.requires.i_in_bounds, c.fill-b.ensures.0, c.fill-b.auto.dst, c.put_raw-e.ensures.0, c.put_raw-e.auto.out)

pub put_seg-returns-then-p-eq0 : goal.put_seg-returns-then-p-eq0
put_seg-returns-then-p-eq0 t c =
    let m = c.args.m.now in let i = c.args.i in let w = c.frame_at-w.result in let x = raw_in m i in let y = segment_in m i in
    let h = framed_at m c.args.table.now i w c.requires.known (sym c.is_bare.ensures ∙ c.if-is_bare.false) c.frame_at-w.ensures in
    let fl = framed_length m.settings w x y h in
    let p0 : length (opening m.settings w.format) ≡ 0 = sym c.prefix_len-p.ensures.0 ∙ c.if-p-eq0.true in let en = ending_none (opening m.settings w.format) p0 in
    let iz = c.fill.ensures.0 in let nz : w.inserted ≡ 0 = inserted_none m.settings w x y h p0 in (
      omega (arith, c.put_raw-e.ensures.0, c.fill-b.ensures.0),
      put_plain m.settings w x y h c.args.out.now c.fill-b.new.dst c.put_raw-e.new.out c.fill.new.dst c.args.at c.fill-b.result c.put_raw-e.result c.pad_byte-z.result p0 c.pad_byte-z.ensures c.fill-b.ensures.1 c.fill-b.ensures.0 c.put_raw-e.ensures.1 c.put_raw-e.ensures.0 c.fill.ensures.1 c.requires.i_in_bounds,
    )

pub put_seg-overflow_add-b : goal.put_seg-overflow_add-b
put_seg-overflow_add-b t c =
    let m = c.args.m.now in let i = c.args.i in let w = c.frame_at-w.result in let x = raw_in m i in let y = segment_in m i in
    let h = framed_at m c.args.table.now i w c.requires.known (sym c.is_bare.ensures ∙ c.if-is_bare.false) c.frame_at-w.ensures in
    let fl = framed_length m.settings w x y h in
    omega (arith, c.requires.i_in_bounds, c.prefix_len-p.ensures.0)

pub put_seg-overflow_add-b-2 : goal.put_seg-overflow_add-b-2
put_seg-overflow_add-b-2 t c =
    let m = c.args.m.now in let i = c.args.i in let w = c.frame_at-w.result in let x = raw_in m i in let y = segment_in m i in
    let h = framed_at m c.args.table.now i w c.requires.known (sym c.is_bare.ensures ∙ c.if-is_bare.false) c.frame_at-w.ensures in
    let fl = framed_length m.settings w x y h in
    omega (arith, c.requires.i_in_bounds, c.prefix_len-p.ensures.0)

pub put_seg-overflow_add-b-3 : goal.put_seg-overflow_add-b-3
put_seg-overflow_add-b-3 t c =
    let m = c.args.m.now in let i = c.args.i in let w = c.frame_at-w.result in let x = raw_in m i in let y = segment_in m i in
    let h = framed_at m c.args.table.now i w c.requires.known (sym c.is_bare.ensures ∙ c.if-is_bare.false) c.frame_at-w.ensures in
    let fl = framed_length m.settings w x y h in
    omega (arith, c.requires.i_in_bounds, c.prefix_len-p.ensures.0)

pub put_seg-put_raw-e-requires-2 : goal.put_seg-put_raw-e-requires-2
put_seg-put_raw-e-requires-2 t c =
    let m = c.args.m.now in let i = c.args.i in let w = c.frame_at-w.result in let x = raw_in m i in let y = segment_in m i in
    let h = framed_at m c.args.table.now i w c.requires.known (sym c.is_bare.ensures ∙ c.if-is_bare.false) c.frame_at-w.ensures in
    let fl = framed_length m.settings w x y h in (
      omega (arith, c.decreases),
      (
        known_less m c.args.table.now (i + 1) i (omega arith) c.requires.known,
        (
          omega (arith, c.requires.known.readable.few),
          (omega (arith, c.requires.i_in_bounds, c.prefix_len-p.ensures.0), c.requires.low),
        ),
      ),
    )

pub put_seg-dress-requires-clause-i_le_e : goal.put_seg-dress-requires-clause-i_le_e
put_seg-dress-requires-clause-i_le_e t c =
    let m = c.args.m.now in let i = c.args.i in let w = c.frame_at-w.result in let x = raw_in m i in let y = segment_in m i in
    let h = framed_at m c.args.table.now i w c.requires.known (sym c.is_bare.ensures ∙ c.if-is_bare.false) c.frame_at-w.ensures in
    let fl = framed_length m.settings w x y h in
    let at = c.args.at in let p = c.prefix_len-p.result in
    let pe : p ≡ length (opening m.settings w.format) = c.prefix_len-p.ensures.0 in let p1 : length (opening m.settings w.format) ≡ 0 → ⊥ = λ z. c.if-p-eq0.false (pe ∙ z) in let en = ending_four (opening m.settings w.format) p1 in
    let b = at + (p + (w.left + w.inserted)) in
    let o₁ = c.put_raw-e-2.new.out in let e = c.put_raw-e-2.result in let ee : e ≡ b + length x = c.put_raw-e-2.ensures.0 in
    let q : part b e o₁ ≡ x = ap (part b e) c.put_raw-e-2.ensures.1 ∙ part_put c.args.out.now b e x ee (omega (arith, c.requires.i_in_bounds)) in
    (omega arith, ap (λ (u : List ℕ). at + (length (prefix w.format.look) + (w.left + length (reinserted (prefix w.format.look) u)))) q ∙ dressed_place m.settings w x y h p1 at b e p pe refl ee)

pub put_seg-dress-requires-clause-r_in_bounds : goal.put_seg-dress-requires-clause-r_in_bounds
put_seg-dress-requires-clause-r_in_bounds t c =
    let m = c.args.m.now in let i = c.args.i in let w = c.frame_at-w.result in let x = raw_in m i in let y = segment_in m i in
    let h = framed_at m c.args.table.now i w c.requires.known (sym c.is_bare.ensures ∙ c.if-is_bare.false) c.frame_at-w.ensures in
    let fl = framed_length m.settings w x y h in
    let at = c.args.at in let p = c.prefix_len-p.result in
    let pe : p ≡ length (opening m.settings w.format) = c.prefix_len-p.ensures.0 in let p1 : length (opening m.settings w.format) ≡ 0 → ⊥ = λ z. c.if-p-eq0.false (pe ∙ z) in let en = ending_four (opening m.settings w.format) p1 in
    let b = at + (p + (w.left + w.inserted)) in
    let e = c.put_raw-e-2.result in let ee : e ≡ b + length x = c.put_raw-e-2.ensures.0 in
    omega (arith, c.requires.i_in_bounds, c.put_raw-e-2.auto.out)

pub put_seg-returns : goal.put_seg-returns
put_seg-returns t c =
    let m = c.args.m.now in let i = c.args.i in let w = c.frame_at-w.result in let x = raw_in m i in let y = segment_in m i in
    let h = framed_at m c.args.table.now i w c.requires.known (sym c.is_bare.ensures ∙ c.if-is_bare.false) c.frame_at-w.ensures in
    let fl = framed_length m.settings w x y h in
    let at = c.args.at in let p = c.prefix_len-p.result in
    let pe : p ≡ length (opening m.settings w.format) = c.prefix_len-p.ensures.0 in let p1 : length (opening m.settings w.format) ≡ 0 → ⊥ = λ z. c.if-p-eq0.false (pe ∙ z) in let en = ending_four (opening m.settings w.format) p1 in
    let b = at + (p + (w.left + w.inserted)) in
    let o₁ = c.put_raw-e-2.new.out in let e = c.put_raw-e-2.result in let ee : e ≡ b + length x = c.put_raw-e-2.ensures.0 in (
      omega (arith, c.dress.ensures.0),
      put_dressed m.settings w x y h c.args.out.now o₁ c.dress.new.out at b e p p1 pe refl c.put_raw-e-2.ensures.1 ee c.dress.ensures.1 c.requires.i_in_bounds,
    )
