-- `visible::visible_text` meets its contract. Assumes nothing.
use native.Mathlib.Omega.{arith}
use mathlib.Core.Path.{refl, sym, ap, subst, ◌∙◌}
use lib.ListN.{length}
use Rattle.packing.specs.Packing.{answer_in, Packable}
use Rattle.packing.proofs.Rooms.{packable_in, packable_refused}
use Rattle.colour.specs.Sequences.{visible}
use Rattle.answer.specs.Answers.{answer_of, buffer_after}
use Rattle.answer.proofs.Answering.{answer_in_room, buffer_in_room}
use Rattle.visible.proofs.Outcomes.{fits, too_long_lem, refused_answer, refused_buffer, visible_shorter}
use Rattle.visible.proofs.visible_text.Goals as goal

pub returns-then-s-ge-TOO_LONG : goal.returns-then-s-ge-TOO_LONG
returns-then-s-ge-TOO_LONG c =
    let o = too_long_lem c.args.s.now (length c.args.out.now) c.if-s-ge-TOO_LONG.true in
    record {
      answer = refused_answer o;
      buffer = refused_buffer c.args.out.now o;
      packable = packable_refused _ refl;
    }

pub returns : goal.returns
returns c =
    let s = c.args.s.now in
    let d = c.args.out.now in
    let h = c.if-s-ge-TOO_LONG.false in
    let o = fits s (length d) h in
    record {
      answer = c.answer_in.ensures ∙ ap (answer_in (length d)) c.put_visible-n.ensures.0 ∙ answer_in_room (length d) (visible s) ∙ ap answer_of o;
      buffer = c.put_visible-n.ensures.1 ∙ buffer_in_room d (visible s) ∙ ap (buffer_after d) o;
      packable = subst Packable (sym c.answer_in.ensures) (packable_in _ _ (omega (arith, c.put_visible-n.ensures.0, visible_shorter s, h)));
    }
