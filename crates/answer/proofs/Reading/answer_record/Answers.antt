-- `answer::Reading::answer_record` meets its contract. Assumes nothing.
use mathlib.Core.List.{List}
use mathlib.Core.Path.{◌≡◌, refl, sym, ap, subst, ◌∙◌}
use native.Mathlib.Omega.{arith}
use lib.ListN.{length}
use Rattle.std.proofs.lemmas.Result.{err_from_is_err_and}
use Rattle.refusals.specs.declared.Refusal.{Refusal}
use Rattle.buffer.specs.Buffer.{written}
use Rattle.record.specs.Layout.{laid_out}
use Rattle.record.specs.Placed.{laid_by}
use Rattle.record.proofs.Sizes.{laid_places}
use Rattle.checks.specs.Told.{tell_checked}
use Rattle.packing.specs.Packing.{Packable}
use Rattle.packing.proofs.Rooms.{packable_in, packable_refused}
use Rattle.answer.specs.Answers.{answer_of, buffer_after}
use Rattle.answer.specs.Maker.{Maker, IsRead}
use Rattle.answer.specs.Rooms.{segments_of, line_by, outcome_by, Accepted}
use Rattle.answer.proofs.Answering.{answer_passed, buffer_passed, answer_refused, buffer_refused, refusal_unsized, texts_short, sized, missized}
use Rattle.answer.proofs.Counted.{line_counted}
use Rattle.answer.proofs.Reading.answer_record.Goals as goal

pub returns-then-not-right_size : goal.returns-then-not-right_size
unfolding answer_of buffer_after
returns-then-not-right_size c =
    let d = c.args.d.now in let out = c.args.out.now in
    let m : Maker = record { form = c.self.inside.form; settings = c.self.inside.settings; template = c.self.inside.template.now; cells = c.self.inside.cells.now; count = c.self.inside.count } in
    let h = sym c.right_size.ensures ∙ c.if-not-right_size.true in
    record {
      answer = ap answer_of (missized m d c.args.room h) ∙ ap (λ (k : Maker). answer_of (outcome_by k d c.args.room)) c.self.view_is;
      buffer = ap (buffer_after out) (missized m d (length out) h) ∙ ap (λ (k : Maker). buffer_after out (outcome_by k d (length out))) c.self.view_is;
      packable = packable_refused Refusal.NotASheet refl;
    }

pub returns-in_err-check_record : goal.returns-in_err-check_record
unfolding tell_checked
returns-in_err-check_record c =
    let d = c.args.d.now in let out = c.args.out.now in
    let m : Maker = record { form = c.self.inside.form; settings = c.self.inside.settings; template = c.self.inside.template.now; cells = c.self.inside.cells.now; count = c.self.inside.count } in
    let e = laid_places m.form d c.places_in-places.result c.places_in-places.ensures.value in
    let l = laid_by c.places_in-places.result d in
    let r = c.in_err-check_record.field-0.0 in
    let some_of = sym c.in_err-check_record.ensures in
    let h = sym c.right_size.ensures ∙ c.if-not-right_size.false in
    let p = err_from_is_err_and c.from_residual.result c.from_residual.ensures.1 in
    rw (p.1, p.2) (record {
      answer =
          answer_refused m.form m.settings m.template (segments_of m) l (laid_out m.form d) e c.args.room r some_of
          ∙ ap answer_of (sized m d c.args.room h)
          ∙ ap (λ (k : Maker). answer_of (outcome_by k d c.args.room)) c.self.view_is;
      buffer =
          buffer_refused m.form m.settings m.template (segments_of m) l (laid_out m.form d) e out r some_of
          ∙ ap (buffer_after out) (sized m d (length out) h)
          ∙ ap (λ (k : Maker). buffer_after out (outcome_by k d (length out))) c.self.view_is;
      packable = packable_refused r (refusal_unsized m.form l r some_of);
    })

pub put_line-requires : goal.put_line-requires
unfolding tell_checked
put_line-requires c = record {
  places = c.places_in-places.ensures.within;
  texts = texts_short c.self.inside.form (laid_by c.places_in-places.result c.args.d.now) (sym c.in_ok-check_record.ensures);
}

pub returns : goal.returns
unfolding tell_checked
returns c =
    let d = c.args.d.now in let out = c.args.out.now in
    let m : Maker = record { form = c.self.inside.form; settings = c.self.inside.settings; template = c.self.inside.template.now; cells = c.self.inside.cells.now; count = c.self.inside.count } in
    let e = laid_places m.form d c.places_in-places.result c.places_in-places.ensures.value in
    let l = laid_by c.places_in-places.result d in
    let none_of = sym c.in_ok-check_record.ensures in
    let h = sym c.right_size.ensures ∙ c.if-not-right_size.false in
    let a : Accepted d c.places_in-places.result = record { places = c.places_in-places.ensures.within; texts = texts_short m.form l none_of } in
    let i : IsRead m.template m.cells m.count = c.self.invariant in
    let small = line_counted m d c.places_in-places.result i a in
    let text = ap (λ (k : Maker). line_by k l) (sym c.self.view_is) in
    let n = c.put_line.ensures.0 ∙ ap length text in
    record {
      answer =
          answer_passed m.form m.settings m.template (segments_of m) l (laid_out m.form d) e c.args.room c.put_line.result c.answer_in.result none_of n c.answer_in.ensures
          ∙ ap answer_of (sized m d c.args.room h)
          ∙ ap (λ (k : Maker). answer_of (outcome_by k d c.args.room)) c.self.view_is;
      buffer =
          buffer_passed m.form m.settings m.template (segments_of m) l (laid_out m.form d) e out _ none_of (c.put_line.ensures.1 ∙ ap (written out) text)
          ∙ ap (buffer_after out) (sized m d (length out) h)
          ∙ ap (λ (k : Maker). buffer_after out (outcome_by k d (length out))) c.self.view_is;
      packable = subst Packable (sym c.answer_in.ensures) (packable_in c.args.room c.put_line.result (omega (arith, small, n)));
    }
