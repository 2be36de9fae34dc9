-- `layouts::put_run` meets its contract. Assumes nothing.
use Prim.Native.Nat.{ℕ, ◌+◌, ◌≤◌}
use mathlib.Core.Path.{◌≡◌, sym, ap, ◌∙◌, subst}
use mathlib.Core.Bool.{false}
use mathlib.Core.List.{List}
use native.Mathlib.Omega.{arith}
use lib.ListN.{length}
use Rattle.buffer.specs.Bytes.{part}
use Rattle.buffer.specs.Buffer.{put_at, Puts}
use Rattle.buffer.proofs.Writing.{put_nil, put_length, part_put}
use Rattle.colour.specs.declared.Settings.{Settings}
use Rattle.colour.specs.Sequences.{reinserted}
use Rattle.colour.specs.Looks.{prefix}
use Rattle.dress.specs.Around.{around, dressed}
use Rattle.dress.proofs.Framing.{opening, Framed, framed_length}
use Rattle.dress.proofs.Placing.{ending_four, dressed_place, put_dressed}
use Rattle.layouts.specs.Texts.{text_bytes}
use Rattle.layouts.specs.declared.Run.{Run}
use Rattle.layouts.specs.Runs.{is_left_out, run_text}
use Rattle.layouts.proofs.Running.{frame_of}
use Rattle.layouts.proofs.Runs.{left_out, shown_longer, shown_bare, shown_countable, shown_resets, shown_framed}
use Rattle.measure.specs.declared.sink.Place.{Place}
use Rattle.layouts.proofs.put_run.Goals as goal

-- a run with a prefix of k bytes, and n bytes inserted
module _ (s : Settings) (d : List ℕ) (r : Run) (n k : ℕ) (h : Framed s (frame_of r.format n) (text_bytes r.text d) (run_text s d r))
    (ke : k ≡ length (opening s r.format)) (some : k ≡ 0 → ⊥) where
  prefixed : length (opening s r.format) ≡ 0 → ⊥
  prefixed z = some (ke ∙ z)

  -- its bytes, with the reset
  dressed_length : length (run_text s d r) ≡ k + (n + (length (text_bytes r.text d) + 4))
  dressed_length = omega (arith, framed_length s (frame_of r.format n) (text_bytes r.text d) (run_text s d r) h, ending_four (opening s r.format) prefixed)

  -- its text is put where it ends once it is dressed
  module _ (o o₁ : List ℕ) (at e : ℕ) (room : at + length (run_text s d r) ≤ length o) (w : Puts o o₁ (at + (k + n)) (text_bytes r.text d) e) where
    undressed : part (at + (k + n)) e o₁ ≡ text_bytes r.text d
    undressed = ap (part (at + (k + n)) e) w.1 ∙ part_put o (at + (k + n)) e (text_bytes r.text d) w.0 (omega (arith, dressed_length))

    dressing : (at + (k + n) ≤ e) × (at + (length (prefix r.format.look) + (0 + length (reinserted (prefix r.format.look) (part (at + (k + n)) e o₁)))) ≡ e)
    dressing =
        let q = prefix r.format.look in
        let place = dressed_place s (frame_of r.format n) (text_bytes r.text d) (run_text s d r) h prefixed at (at + (k + n)) e k ke (omega arith) w.0 in
        (omega (arith, w.0), ap (λ (x : List ℕ). at + (length q + (0 + length (reinserted q x)))) undressed ∙ place)

    reset_room : e + 4 ≤ length o₁
    reset_room = omega (arith, w.0, dressed_length, ap length w.1, put_length o (at + (k + n)) (text_bytes r.text d) (omega (arith, dressed_length)))

    dressed_puts : (o₂ : List ℕ) (v : ℕ) → v ≡ e + 4 → o₂ ≡ put_at o₁ at (dressed r.format 0 0 (part (at + (k + n)) e o₁)) → Puts o o₂ at (run_text s d r) v
    dressed_puts o₂ v ve oe =
        let put = put_dressed s (frame_of r.format n) (text_bytes r.text d) (run_text s d r) h o o₁ o₂ at (at + (k + n)) e k prefixed ke (omega arith) w.1 w.0 oe room in
        (omega (arith, w.0, dressed_length), put)

pub returns-then-is_left_out : goal.returns-then-is_left_out
returns-then-is_left_out c =
    let o = c.args.out.now in
    let e = left_out c.args.s c.args.d.now c.args.r (sym c.is_left_out.ensures ∙ c.if-is_left_out.true) in
    (omega (arith, ap length e), sym (put_nil o c.args.at) ∙ ap (put_at o c.args.at) (sym e))

pub write_text-e-requires : goal.write_text-e-requires
write_text-e-requires c =
    let is_shown : is_left_out c.args.r.text ≡ false =
    sym c.is_left_out.ensures ∙ c.if-is_left_out.false in
    record {
      text_within = c.requires.run_fits.within;
      fits = omega (arith, c.requires.r_in_bounds.0, shown_longer c.args.s c.args.d.now c.args.r c.requires.run_fits.width is_shown);
    }

pub returns-then-p-eq0 : goal.returns-then-p-eq0
returns-then-p-eq0 c =
    let is_shown : is_left_out c.args.r.text ≡ false =
    sym c.is_left_out.ensures ∙ c.if-is_left_out.false in
    let e = sym c.prefix_len-p.ensures.0 ∙ c.if-p-eq0.true in
    subst (λ (x : List ℕ). Puts c.args.out.now c.write_text-e.new.out c.args.at x c.write_text-e.result.0)
    (sym (shown_bare c.args.s c.args.d.now c.args.r c.requires.run_fits.width is_shown e))
    (ap (λ (p : Place). p.0) c.write_text-e.ensures.value, c.write_text-e.ensures.buffer)

pub write_text-m-requires : goal.write_text-m-requires
write_text-m-requires c =
    let is_shown : is_left_out c.args.r.text ≡ false =
    sym c.is_left_out.ensures ∙ c.if-is_left_out.false in
    record {
      text_within = c.requires.run_fits.within;
      fits = shown_countable c.args.s c.args.d.now c.args.r c.requires.run_fits.width is_shown c.none.result c.none.ensures c.requires.r_in_bounds.1;
    }

pub inserted_in-n-requires : goal.inserted_in-n-requires
inserted_in-n-requires c =
    let is_shown : is_left_out c.args.r.text ≡ false =
    sym c.is_left_out.ensures ∙ c.if-is_left_out.false in
    shown_resets c.args.s c.args.d.now c.args.r c.requires.run_fits.width is_shown c.none.result c.write_text-m.result c.none.ensures c.write_text-m.ensures.value c.requires.r_in_bounds.1

pub overflow_add-b : goal.overflow_add-b
overflow_add-b c =
    let is_shown : is_left_out c.args.r.text ≡ false =
    sym c.is_left_out.ensures ∙ c.if-is_left_out.false in
    let is_framed : (Framed c.args.s (frame_of c.args.r.format c.inserted_in-n.result) (text_bytes c.args.r.text c.args.d.now) (run_text c.args.s c.args.d.now c.args.r)) =
    shown_framed c.args.s c.args.d.now c.args.r c.requires.run_fits.width is_shown c.none.result c.write_text-m.result c.none.ensures c.write_text-m.ensures.value c.inserted_in-n.result c.inserted_in-n.ensures in
    let is_long_lem : (let a = c.args in length (run_text c.args.s c.args.d.now c.args.r) ≡ c.prefix_len-p.result + (c.inserted_in-n.result + (length (text_bytes c.args.r.text c.args.d.now) + 4))) =
    dressed_length c.args.s c.args.d.now c.args.r c.inserted_in-n.result c.prefix_len-p.result is_framed c.prefix_len-p.ensures.0 c.if-p-eq0.false in
    omega (arith, c.requires.r_in_bounds.1, is_long_lem)

pub overflow_add-b-2 : goal.overflow_add-b-2
overflow_add-b-2 c =
    let is_shown : is_left_out c.args.r.text ≡ false =
    sym c.is_left_out.ensures ∙ c.if-is_left_out.false in
    let is_framed : (Framed c.args.s (frame_of c.args.r.format c.inserted_in-n.result) (text_bytes c.args.r.text c.args.d.now) (run_text c.args.s c.args.d.now c.args.r)) =
    shown_framed c.args.s c.args.d.now c.args.r c.requires.run_fits.width is_shown c.none.result c.write_text-m.result c.none.ensures c.write_text-m.ensures.value c.inserted_in-n.result c.inserted_in-n.ensures in
    let is_long_lem : (let a = c.args in length (run_text c.args.s c.args.d.now c.args.r) ≡ c.prefix_len-p.result + (c.inserted_in-n.result + (length (text_bytes c.args.r.text c.args.d.now) + 4))) =
    dressed_length c.args.s c.args.d.now c.args.r c.inserted_in-n.result c.prefix_len-p.result is_framed c.prefix_len-p.ensures.0 c.if-p-eq0.false in
    omega (arith, c.requires.r_in_bounds.0, c.well_formed.1.1.1.0.0, is_long_lem)

pub write_text-e-requires-2 : goal.write_text-e-requires-2
write_text-e-requires-2 c =
    let is_shown : is_left_out c.args.r.text ≡ false =
    sym c.is_left_out.ensures ∙ c.if-is_left_out.false in
    let is_framed : (Framed c.args.s (frame_of c.args.r.format c.inserted_in-n.result) (text_bytes c.args.r.text c.args.d.now) (run_text c.args.s c.args.d.now c.args.r)) =
    shown_framed c.args.s c.args.d.now c.args.r c.requires.run_fits.width is_shown c.none.result c.write_text-m.result c.none.ensures c.write_text-m.ensures.value c.inserted_in-n.result c.inserted_in-n.ensures in
    let is_long_lem : (let a = c.args in length (run_text c.args.s c.args.d.now c.args.r) ≡ c.prefix_len-p.result + (c.inserted_in-n.result + (length (text_bytes c.args.r.text c.args.d.now) + 4))) =
    dressed_length c.args.s c.args.d.now c.args.r c.inserted_in-n.result c.prefix_len-p.result is_framed c.prefix_len-p.ensures.0 c.if-p-eq0.false in
    record {
      text_within = c.requires.run_fits.within;
      fits = omega (arith, c.requires.r_in_bounds.0, is_long_lem);
    }

pub slice_bounds-dress_bare-count : goal.slice_bounds-dress_bare-count
slice_bounds-dress_bare-count c = c.requires.run_fits.place.0

pub slice_bounds-dress_bare-start : goal.slice_bounds-dress_bare-start
slice_bounds-dress_bare-start c = omega (arith, c.requires.run_fits.place.0, c.requires.run_fits.place.1)

pub slice_bounds-dress_bare-end : goal.slice_bounds-dress_bare-end
slice_bounds-dress_bare-end c = c.requires.run_fits.place.1

pub dress_bare-requires : goal.dress_bare-requires
dress_bare-requires c =
    let is_shown : is_left_out c.args.r.text ≡ false =
    sym c.is_left_out.ensures ∙ c.if-is_left_out.false in
    let is_framed : (Framed c.args.s (frame_of c.args.r.format c.inserted_in-n.result) (text_bytes c.args.r.text c.args.d.now) (run_text c.args.s c.args.d.now c.args.r)) =
    shown_framed c.args.s c.args.d.now c.args.r c.requires.run_fits.width is_shown c.none.result c.write_text-m.result c.none.ensures c.write_text-m.ensures.value c.inserted_in-n.result c.inserted_in-n.ensures in
    let s = c.args.s in
    let d = c.args.d.now in
    let r = c.args.r in
    let o = c.args.out.now in
    let n = c.inserted_in-n.result in
    let h = is_framed in
    let place = dressing s d r n c.prefix_len-p.result h c.prefix_len-p.ensures.0 c.if-p-eq0.false o c.write_text-e-2.new.out c.args.at c.write_text-e-2.result.0 c.requires.r_in_bounds.0 (ap (λ (p : Place). p.0) c.write_text-e-2.ensures.value, c.write_text-e-2.ensures.buffer) in
    let room = reset_room s d r n c.prefix_len-p.result h c.prefix_len-p.ensures.0 c.if-p-eq0.false o c.write_text-e-2.new.out c.args.at c.write_text-e-2.result.0 c.requires.r_in_bounds.0 (ap (λ (p : Place). p.0) c.write_text-e-2.ensures.value, c.write_text-e-2.ensures.buffer) in
    let x = part (c.args.at + (c.prefix_len-p.result + n)) c.write_text-e-2.result.0 c.write_text-e-2.new.out in
    record {
      i_le_e = (place.0, ap (λ (q : List ℕ). c.args.at + (length q + (0 + length (reinserted q x)))) c.requires.run_fits.prefix_is ∙ place.1);
      e_in_bounds = room;
    }

pub returns : goal.returns
returns c =
    let is_shown : is_left_out c.args.r.text ≡ false =
    sym c.is_left_out.ensures ∙ c.if-is_left_out.false in
    let is_framed : (Framed c.args.s (frame_of c.args.r.format c.inserted_in-n.result) (text_bytes c.args.r.text c.args.d.now) (run_text c.args.s c.args.d.now c.args.r)) =
    shown_framed c.args.s c.args.d.now c.args.r c.requires.run_fits.width is_shown c.none.result c.write_text-m.result c.none.ensures c.write_text-m.ensures.value c.inserted_in-n.result c.inserted_in-n.ensures in
    let x = part (c.args.at + (c.prefix_len-p.result + c.inserted_in-n.result)) c.write_text-e-2.result.0 c.write_text-e-2.new.out in
    let e = ap (λ (q : List ℕ). put_at c.write_text-e-2.new.out c.args.at (around q 0 (reinserted q x) 0 0)) c.requires.run_fits.prefix_is in
    dressed_puts c.args.s c.args.d.now c.args.r c.inserted_in-n.result c.prefix_len-p.result is_framed c.prefix_len-p.ensures.0 c.if-p-eq0.false
    c.args.out.now c.write_text-e-2.new.out c.args.at c.write_text-e-2.result.0 c.requires.r_in_bounds.0 (ap (λ (p : Place). p.0) c.write_text-e-2.ensures.value, c.write_text-e-2.ensures.buffer) c.dress_bare.new.out c.dress_bare.result c.dress_bare.ensures.0 (c.dress_bare.ensures.1 ∙ e)
