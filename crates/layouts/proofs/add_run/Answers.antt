-- `layouts::add_run` meets its contract. Assumes nothing.
use Prim.Native.Nat.{◌+◌, ◌<◌, ◌^◌}
use mathlib.Core.Path.{◌≡◌, sym, ap, ◌∙◌, subst}
use mathlib.Core.Bool.{false}
use mathlib.Core.List.{◌++◌}
use native.Mathlib.Omega.{arith}
use lib.ListN.{length, replicate}
use Rattle.colour.specs.Formatting.{pad_byte}
use Rattle.measure.specs.declared.Measure.{Measure}
use Rattle.measure.specs.Measures.{grown, Small}
use Rattle.measure.specs.Measured.{grown_nil, small_grown}
use Rattle.dress.proofs.Framing.{opening, Framed, framed_length, open_length, frame_walked}
use Rattle.layouts.specs.Texts.{text_bytes}
use Rattle.layouts.specs.Runs.{is_left_out, run_text}
use Rattle.layouts.proofs.Running.{frame_of}
use Rattle.layouts.proofs.Runs.{left_out, shown_longer, shown_bare, shown_countable, shown_resets, shown_framed}
use Rattle.layouts.proofs.add_run.Goals as goal

pub returns-then-is_left_out : goal.returns-then-is_left_out
returns-then-is_left_out c =
    let a = c.args.a in
    sym (grown_nil a) ∙ ap (grown a) (sym (left_out c.args.s c.args.d.now c.args.r (sym c.is_left_out.ensures ∙ c.if-is_left_out.true)))

pub write_text-requires : goal.write_text-requires
write_text-requires c =
    let is_shown : is_left_out c.args.r.text ≡ false =
    sym c.is_left_out.ensures ∙ c.if-is_left_out.false in
    record {
      text_within = c.requires.run_fits.within;
      fits = (c.requires.small.0, omega (arith, c.requires.small.1, shown_longer c.args.s c.args.d.now c.args.r c.requires.run_fits.width is_shown));
    }

pub returns-then-prefix_len-eq0 : goal.returns-then-prefix_len-eq0
returns-then-prefix_len-eq0 c =
    let is_shown : is_left_out c.args.r.text ≡ false =
    sym c.is_left_out.ensures ∙ c.if-is_left_out.false in
    let e = sym c.prefix_len.ensures.0 ∙ c.if-prefix_len-eq0.true in
    c.write_text.ensures.value ∙ ap (grown c.args.a) (sym (shown_bare c.args.s c.args.d.now c.args.r c.requires.run_fits.width is_shown e))

pub write_text-m-requires : goal.write_text-m-requires
write_text-m-requires c =
    let is_shown : is_left_out c.args.r.text ≡ false =
    sym c.is_left_out.ensures ∙ c.if-is_left_out.false in
    record {
      text_within = c.requires.run_fits.within;
      fits = shown_countable c.args.s c.args.d.now c.args.r c.requires.run_fits.width is_shown c.none.result c.none.ensures (omega (arith, c.requires.small.1));
    }

pub inserted_in-n-requires : goal.inserted_in-n-requires
inserted_in-n-requires c =
    let is_shown : is_left_out c.args.r.text ≡ false =
    sym c.is_left_out.ensures ∙ c.if-is_left_out.false in
    shown_resets c.args.s c.args.d.now c.args.r c.requires.run_fits.width is_shown c.none.result c.write_text-m.result c.none.ensures c.write_text-m.ensures.value (omega (arith, c.requires.small.1))

pub write_text-c-requires : goal.write_text-c-requires
write_text-c-requires c =
    let is_shown : is_left_out c.args.r.text ≡ false =
    sym c.is_left_out.ensures ∙ c.if-is_left_out.false in
    let is_framed : (Framed c.args.s (frame_of c.args.r.format c.inserted_in-n.result) (text_bytes c.args.r.text c.args.d.now) (run_text c.args.s c.args.d.now c.args.r)) =
    shown_framed c.args.s c.args.d.now c.args.r c.requires.run_fits.width is_shown c.none.result c.write_text-m.result c.none.ensures c.write_text-m.ensures.value c.inserted_in-n.result c.inserted_in-n.ensures in
    let opened_small : Small c.opened-b.result =
    let f = c.args.r.format in
    subst Small (sym c.opened-b.ensures) (small_grown c.args.a (opening c.args.s f ++ replicate 0 (pad_byte c.args.r.format.padding)) c.requires.small.0) in
    let opened_len : (c.opened-b.result.len + (length (text_bytes c.args.r.text c.args.d.now) + c.inserted_in-n.result) < 2 ^ 57) =
    let s = c.args.s in
    let r = c.args.r in
    let w = frame_of c.args.r.format c.inserted_in-n.result in
    let t = text_bytes c.args.r.text c.args.d.now in
    let y = run_text s c.args.d.now r in
    let h = is_framed in
    omega (arith, ap (λ (k : Measure). k.len) c.opened-b.ensures, open_length s w t y h, framed_length s w t y h, c.requires.small.1) in
    record {
      text_within = c.requires.run_fits.within;
      fits = (opened_small, omega (arith, opened_len));
    }

pub closed-requires : goal.closed-requires
closed-requires c =
    let is_shown : is_left_out c.args.r.text ≡ false =
    sym c.is_left_out.ensures ∙ c.if-is_left_out.false in
    let is_framed : (Framed c.args.s (frame_of c.args.r.format c.inserted_in-n.result) (text_bytes c.args.r.text c.args.d.now) (run_text c.args.s c.args.d.now c.args.r)) =
    shown_framed c.args.s c.args.d.now c.args.r c.requires.run_fits.width is_shown c.none.result c.write_text-m.result c.none.ensures c.write_text-m.ensures.value c.inserted_in-n.result c.inserted_in-n.ensures in
    let opened_small : Small c.opened-b.result =
    let f = c.args.r.format in
    subst Small (sym c.opened-b.ensures) (small_grown c.args.a (opening c.args.s f ++ replicate 0 (pad_byte c.args.r.format.padding)) c.requires.small.0) in
    let opened_len : (c.opened-b.result.len + (length (text_bytes c.args.r.text c.args.d.now) + c.inserted_in-n.result) < 2 ^ 57) =
    let s = c.args.s in
    let r = c.args.r in
    let w = frame_of c.args.r.format c.inserted_in-n.result in
    let t = text_bytes c.args.r.text c.args.d.now in
    let y = run_text s c.args.d.now r in
    let h = is_framed in
    omega (arith, ap (λ (k : Measure). k.len) c.opened-b.ensures, open_length s w t y h, framed_length s w t y h, c.requires.small.1) in
    let e = c.write_text-c.ensures.value in
    let small = subst Small (sym e) (small_grown c.opened-b.result (text_bytes c.args.r.text c.args.d.now) opened_small) in
    (small, omega (arith, ap (λ (k : Measure). k.len) e, opened_len))

pub returns : goal.returns
returns c =
    let is_shown : is_left_out c.args.r.text ≡ false =
    sym c.is_left_out.ensures ∙ c.if-is_left_out.false in
    let is_framed : (Framed c.args.s (frame_of c.args.r.format c.inserted_in-n.result) (text_bytes c.args.r.text c.args.d.now) (run_text c.args.s c.args.d.now c.args.r)) =
    shown_framed c.args.s c.args.d.now c.args.r c.requires.run_fits.width is_shown c.none.result c.write_text-m.result c.none.ensures c.write_text-m.ensures.value c.inserted_in-n.result c.inserted_in-n.ensures in
    let s = c.args.s in
    let r = c.args.r in
    let d = c.args.d.now in
    c.closed.ensures
    ∙ frame_walked s (frame_of c.args.r.format c.inserted_in-n.result) (text_bytes c.args.r.text d) (run_text s d r) is_framed c.args.a c.opened-b.result c.write_text-c.result c.opened-b.ensures c.write_text-c.ensures.value
