-- `answer::line` meets its contract. Assumes nothing.
use Rattle.std.proofs.Common.{rules, ◌≡◌, ℕ, List, true, refl, sym, ap, ◌∙◌, length}
use Rattle.std.proofs.lemmas.Result.{err_from_is_err_and}
use Rattle.refusals.specs.declared.Refusal.{Refusal}
use Rattle.record.specs.Layout.{right_size, laid_out}
use Rattle.record.specs.declared.Form.{Form}
use Rattle.template.specs.declared.Edition.{Edition}
use Rattle.template.proofs.Refusing.{read_short, refused_by, small_value}
use Rattle.settings.specs.Bits.{is_known, settings_of, edition_of, form_of}
use Rattle.packing.proofs.Rooms.{packable_refused, packable_small}
use Rattle.answer.specs.Answers.{refused, outcome, call_outcome, answer_of, buffer_after}
use Rattle.answer.specs.Maker.{Maker, maker_of}
use Rattle.answer.specs.Rooms.{outcome_by}
use Rattle.answer.proofs.Answering.{same_outcome, unknown_bit, wrong_size, is_call_lem, sized, read_outcome, unread_outcome}
use Rattle.answer.proofs.line.Goals as goal
use Rattle.answer.proofs.line.Goals.{then-not-is_known-via-then-not-is_known, then-not-is_known-via-else-not-is_known+then-not-right_size}

-- a call with known bits and a record of the right size, in the edition that the code asks of its settings byte
module _ (settings : ℕ) (t d : List ℕ) (room : ℕ) (edition : Edition) (e : edition ≡ edition_of settings) (known : is_known settings ≡ true) (size : right_size (form_of settings) d ≡ true) where
  called : outcome (form_of settings) edition (settings_of settings) t (laid_out (form_of settings) d) room ≡ call_outcome settings t d room
  called = same_outcome _ _ _ _ _ _ refl e refl t d room ∙ is_call_lem settings t d room known size

pub returns-then-not-is_known : goal.returns-then-not-is_known
unfolding answer_of buffer_after
returns-then-not-is_known c =
    let d = c.args.d.now in
    let o : refused Refusal.NotASheet ≡ call_outcome c.args.settings c.args.t.now d (length c.args.out.now) = elim c.then-not-is_known.branch [
      | then-not-is_known-via-then-not-is_known w ↦ unknown_bit _ _ _ _ (sym c.is_known.ensures ∙ w.if-not-is_known.true)
      | then-not-is_known-via-else-not-is_known+then-not-right_size w ↦
          wrong_size _ _ _ _ (sym c.is_known.ensures ∙ w.if-not-is_known.false)
          (ap (λ (x : Form). right_size x d) (sym w.form_of.ensures) ∙ sym w.right_size.ensures ∙ w.if-not-right_size.true)
    ] in
    record {
      answer = ap answer_of o;
      buffer = ap (buffer_after c.args.out.now) o;
      packable = packable_refused Refusal.NotASheet refl;
    }

pub returns-in_err-count : goal.returns-in_err-count
unfolding answer_of buffer_after
returns-in_err-count c =
    let d = c.args.d.now in
    let edition = c.edition_of.result in
    let r = c.in_err-count.field-0.0 in
    let told = sym c.in_err-count.ensures.cells_after in
    let size = ap (λ (x : Form). right_size x d) (sym c.form_of.ensures) ∙ sym c.right_size.ensures ∙ c.if-not-right_size.false in
    let o =
    unread_outcome (form_of c.args.settings) edition (settings_of c.args.settings) c.args.t.now (laid_out (form_of c.args.settings) d) (length c.args.out.now) r told
    ∙ called _ _ _ _ edition c.edition_of.ensures (sym c.is_known.ensures ∙ c.if-not-is_known.false) size in
    let p = err_from_is_err_and c.from_residual.result c.from_residual.ensures.1 in
    rw (p.1, p.2) (record {
      answer = ap answer_of o;
      buffer = ap (buffer_after c.args.out.now) o;
      packable = packable_small r (small_value _ r (refused_by edition c.args.t.now r told));
    })

pub new-requires : goal.new-requires
new-requires c = record {
  pool = search rules;
  read = c.in_ok-count.ensures.keeps;
  template = read_short c.edition_of.result c.args.t.now _ (sym c.in_ok-count.ensures.cells_after);
}

pub returns : goal.returns
returns c =
    let d = c.args.d.now in let room = length c.args.out.now in
    let edition = c.edition_of.result in
    let size = ap (λ (x : Form). right_size x d) (sym c.form_of.ensures) ∙ sym c.right_size.ensures ∙ c.if-not-right_size.false in
    let o =
    ap (λ (k : Maker). outcome_by k d room) c.new.ensures
    ∙ sym (sized (maker_of c.args.settings c.args.t.now _ c.in_ok-count.count) d room size)
    ∙ read_outcome (form_of c.args.settings) edition (settings_of c.args.settings) c.args.t.now (laid_out (form_of c.args.settings) d) room _ (sym c.in_ok-count.ensures.cells_after)
    ∙ called _ _ _ _ edition c.edition_of.ensures (sym c.is_known.ensures ∙ c.if-not-is_known.false) size in
    record {
      answer = c.record_line.ensures.answer ∙ ap answer_of o;
      buffer = c.record_line.ensures.buffer ∙ ap (buffer_after c.args.out.now) o;
      packable = c.record_line.ensures.packable;
    }
