-- `rows::Material::join_of`, `raw_of` and `seg_of` meet their contracts. Assumes nothing.
use Rattle.std.proofs.Common.{◌≡◌, ◌+◌, ◌-◌, ◌++◌, false, arith, ap, length, refl, subst, sym, ◌∙◌}
use lib.ListN.{replicate}
use Rattle.colour.specs.Formatting.{pad_byte}
use Rattle.measure.specs.declared.Measure.{Measure}
use Rattle.measure.specs.Measures.{grown, Small}
use Rattle.measure.proofs.Measured.{small_grown}
use Rattle.segments.specs.Pool.{kind_at}
use Rattle.members.proofs.Linking.{on_end}
use Rattle.members.proofs.Forwards.{member_next}
use Rattle.dress.proofs.Framing.{opening, framed_length, open_length, frame_walked}
use Rattle.rows.specs.Materials.{record_in, segment_in, members_in, raw_in}
use Rattle.rows.proofs.Depths.{group_deep, members_low, member_low}
use Rattle.rows.proofs.Segments.{measured_none, measured_step}
use Rattle.rows.proofs.Materials.{known_less, raw_text_is, raw_members_are, raw_field_is, bare_is, framed_at, empty_is, room_is}
use Rattle.rows.proofs.Material.+measuring.Goals as goal

-- ---- join_of

pub join_of-loop-j-init : goal.join_of-loop-j-init
join_of-loop-j-init t c =
    let m = c.args.self.now in
    ((omega arith, on_end m.cells.now c.args.l), measured_none m.settings m.template.now (record_in m) m.cells.now 0 c.args.a refl)

pub join_of-overflow_sub-j : goal.join_of-overflow_sub-j
join_of-overflow_sub-j t c =
    let m = c.args.self.now in
    let h = member_next m.cells.now m.links.now c.args.l c.loop-j.j c.member_after-j.result c.requires.known.forward c.loop-j-test.true c.loop-j.invariant.0.1 c.member_after-j.ensures in
    omega (arith, h.0.0)

pub join_of-seg_of-b-requires : goal.join_of-seg_of-b-requires
join_of-seg_of-b-requires t c =
    let m = c.args.self.now in let l = c.args.l in let a = c.args.a in let j = c.loop-j.j in let k = c.member_after-j.result in
    let h = member_next m.cells.now m.links.now l j k c.requires.known.forward c.loop-j-test.true c.loop-j.invariant.0.1 c.member_after-j.ensures in
    let be : c.loop-j.b ≡ grown a (members_in m j) = c.loop-j.invariant.1 in
    let r = room_is m l j k h.0.0 h.1.0 h.1.1 in (
      omega (arith, c.decreases),
      (
        known_less m c.args.table.now l (k - 1 + 1) (omega (arith, h.0.0, h.0.1)) c.requires.known,
        (
          (subst Small (sym be) (small_grown a (members_in m j) c.requires.small.0), omega (arith, c.requires.small.1, ap (λ (y : Measure). y.len) be)),
          member_low m.cells.now c.args.depth l k (omega (arith, h.0.0)) h.1.0 c.requires.lows,
        ),
      ),
    )

pub join_of-loop-j-smaller : goal.join_of-loop-j-smaller
join_of-loop-j-smaller t c =
    let m = c.args.self.now in
    let h = member_next m.cells.now m.links.now c.args.l c.loop-j.j c.member_after-j.result c.requires.known.forward c.loop-j-test.true c.loop-j.invariant.0.1 c.member_after-j.ensures in
    omega (arith, h.0.0, h.0.1)

pub join_of-loop-j-preserved : goal.join_of-loop-j-preserved
join_of-loop-j-preserved t c =
    let m = c.args.self.now in let k = c.member_after-j.result in
    let h = member_next m.cells.now m.links.now c.args.l c.loop-j.j k c.requires.known.forward c.loop-j-test.true c.loop-j.invariant.0.1 c.member_after-j.ensures in
    let e : k ≡ k - 1 + 1 = omega (arith, h.0.0) in (
      (h.0.1, h.1.0),
      measured_step m.settings m.template.now (record_in m) m.cells.now k (k - 1) c.loop-j.j c.args.a c.loop-j.b c.seg_of-b.result e (sym h.1.1) c.loop-j.invariant.1 c.seg_of-b.ensures,
    )

-- ---- raw_of

pub raw_of-write_text-requires : goal.raw_of-write_text-requires
raw_of-write_text-requires t c =
    let k = raw_text_is c.args.self.now c.args.i (sym c.kind_at.ensures ∙ c.in-Text.is) in
    record { fits = (c.requires.small.0, omega (arith, c.requires.small.1, ap length k)) }

pub raw_of-overflow_sub-depth : goal.raw_of-overflow_sub-depth
raw_of-overflow_sub-depth t c = group_deep c.args.self.now.cells.now c.args.depth c.args.i (sym c.kind_at.ensures ∙ c.in-Group.is) c.requires.low

pub raw_of-join_of-requires : goal.raw_of-join_of-requires
raw_of-join_of-requires t c =
    let m = c.args.self.now in let i = c.args.i in let l = c.last_at.result in
    let kg = sym c.kind_at.ensures ∙ c.in-Group.is in
    let k = raw_members_are m i l kg c.last_at.ensures.0 in (
      omega (arith, c.decreases, group_deep m.cells.now c.args.depth i kg c.requires.low),
      (
        known_less m c.args.table.now i l c.last_at.ensures.1 c.requires.known,
        (
          (c.requires.small.0, omega (arith, c.requires.small.1, ap length k)),
          members_low m.cells.now c.args.depth i l kg c.last_at.ensures.0 c.requires.low,
        ),
      ),
    )

pub raw_of-add_field-requires-clause-small : goal.raw_of-add_field-requires-clause-small
raw_of-add_field-requires-clause-small t c =
    let k = raw_field_is c.args.self.now c.args.i _ (sym c.kind_at.ensures ∙ c.in-Specifier.is) in
    (c.requires.small.0, omega (arith, c.requires.small.1, ap length k))

pub raw_of-returns-in-Text : goal.raw_of-returns-in-Text
raw_of-returns-in-Text t c =
    c.write_text.ensures.value ∙ ap (grown c.args.a) (sym (raw_text_is c.args.self.now c.args.i (sym c.kind_at.ensures ∙ c.in-Text.is)))

pub raw_of-returns-in-Group : goal.raw_of-returns-in-Group
raw_of-returns-in-Group t c =
    c.join_of.ensures ∙ ap (grown c.args.a) (sym (raw_members_are c.args.self.now c.args.i c.last_at.result (sym c.kind_at.ensures ∙ c.in-Group.is) c.last_at.ensures.0))

pub raw_of-returns-in-Specifier : goal.raw_of-returns-in-Specifier
raw_of-returns-in-Specifier t c =
    c.add_field.ensures ∙ ap (grown c.args.a) (sym (raw_field_is c.args.self.now c.args.i _ (sym c.kind_at.ensures ∙ c.in-Specifier.is)))

-- ---- seg_of

pub seg_of-raw_of-requires : goal.seg_of-raw_of-requires
seg_of-raw_of-requires t c =
    let m = c.args.self.now in let i = c.args.i in
    let k = bare_is m c.requires.known.readable.lent i (sym c.is_bare.ensures ∙ c.if-is_bare.true) in (
      omega (arith, c.decreases),
      (
        known_less m c.args.table.now (i + 1) i (omega arith) c.requires.known,
        (
          omega (arith, c.requires.known.readable.few),
          ((c.requires.small.0, omega (arith, c.requires.small.1, ap length k)), c.requires.low),
        ),
      ),
    )

pub seg_of-returns-then-is_bare : goal.seg_of-returns-then-is_bare
seg_of-returns-then-is_bare t c =
    c.raw_of.ensures ∙ ap (grown c.args.a) (sym (bare_is c.args.self.now c.requires.known.readable.lent c.args.i (sym c.is_bare.ensures ∙ c.if-is_bare.true)))

pub seg_of-raw_of-requires-then-is_empty : goal.seg_of-raw_of-requires-then-is_empty
seg_of-raw_of-requires-then-is_empty t c =
    let m = c.args.self.now in let i = c.args.i in let w = c.frame_at-w.result in
    let h = framed_at m c.args.table.now i w c.requires.known (sym c.is_bare.ensures ∙ c.if-is_bare.false) c.frame_at-w.ensures in
    let e = empty_is m i w h (sym c.is_empty.ensures ∙ c.if-is_empty.true) in (
      omega (arith, c.decreases),
      (
        known_less m c.args.table.now (i + 1) i (omega arith) c.requires.known,
        (
          omega (arith, c.requires.known.readable.few),
          ((c.requires.small.0, omega (arith, c.requires.small.1, ap length e)), c.requires.low),
        ),
      ),
    )

pub seg_of-returns-then-is_empty : goal.seg_of-returns-then-is_empty
seg_of-returns-then-is_empty t c =
    let m = c.args.self.now in let i = c.args.i in let w = c.frame_at-w.result in
    let h = framed_at m c.args.table.now i w c.requires.known (sym c.is_bare.ensures ∙ c.if-is_bare.false) c.frame_at-w.ensures in
    c.raw_of-then-is_empty.ensures ∙ ap (grown c.args.a) (sym (empty_is m i w h (sym c.is_empty.ensures ∙ c.if-is_empty.true)))

pub seg_of-opened-b-requires : goal.seg_of-opened-b-requires
seg_of-opened-b-requires t c =
    let m = c.args.self.now in let i = c.args.i in let w = c.frame_at-w.result in
    let h = framed_at m c.args.table.now i w c.requires.known (sym c.is_bare.ensures ∙ c.if-is_bare.false) c.frame_at-w.ensures in
    let fl = framed_length m.settings w (raw_in m i) (segment_in m i) h in
    (c.requires.small.0, omega (arith, c.requires.small.1))

pub seg_of-raw_of-c-requires : goal.seg_of-raw_of-c-requires
seg_of-raw_of-c-requires t c =
    let m = c.args.self.now in let i = c.args.i in let w = c.frame_at-w.result in
    let h = framed_at m c.args.table.now i w c.requires.known (sym c.is_bare.ensures ∙ c.if-is_bare.false) c.frame_at-w.ensures in
    let fl = framed_length m.settings w (raw_in m i) (segment_in m i) h in
    let a = c.args.a in let o = opening m.settings w.format ++ replicate w.left (pad_byte w.format.padding) in let ol = open_length m.settings w (raw_in m i) (segment_in m i) h in
    let be : c.opened-b.result ≡ grown a o = c.opened-b.ensures in let bl = ap (λ (y : Measure). y.len) be in (
      omega (arith, c.decreases),
      (
        known_less m c.args.table.now (i + 1) i (omega arith) c.requires.known,
        (
          omega (arith, c.requires.known.readable.few),
          ((subst Small (sym be) (small_grown a o c.requires.small.0), omega (arith, c.requires.small.1)), c.requires.low),
        ),
      ),
    )

pub seg_of-closed-requires : goal.seg_of-closed-requires
seg_of-closed-requires t c =
    let m = c.args.self.now in let i = c.args.i in let w = c.frame_at-w.result in
    let h = framed_at m c.args.table.now i w c.requires.known (sym c.is_bare.ensures ∙ c.if-is_bare.false) c.frame_at-w.ensures in
    let fl = framed_length m.settings w (raw_in m i) (segment_in m i) h in
    let a = c.args.a in let o = opening m.settings w.format ++ replicate w.left (pad_byte w.format.padding) in let ol = open_length m.settings w (raw_in m i) (segment_in m i) h in
    let be : c.opened-b.result ≡ grown a o = c.opened-b.ensures in let sb : Small c.opened-b.result = subst Small (sym be) (small_grown a o c.requires.small.0) in let bl = ap (λ (y : Measure). y.len) be in
    let ce : c.raw_of-c.result ≡ grown c.opened-b.result (raw_in m i) = c.raw_of-c.ensures in let cl = ap (λ (y : Measure). y.len) ce in
    (subst Small (sym ce) (small_grown c.opened-b.result (raw_in m i) sb), omega (arith, c.requires.small.1))

pub seg_of-returns : goal.seg_of-returns
seg_of-returns t c =
    let m = c.args.self.now in let i = c.args.i in let w = c.frame_at-w.result in
    let h = framed_at m c.args.table.now i w c.requires.known (sym c.is_bare.ensures ∙ c.if-is_bare.false) c.frame_at-w.ensures in
    c.closed.ensures ∙ frame_walked m.settings w (raw_in m i) (segment_in m i) h c.args.a c.opened-b.result c.raw_of-c.result c.opened-b.ensures c.raw_of-c.ensures
