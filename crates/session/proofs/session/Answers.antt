-- `session::session` meets its contract. Assumes nothing.
use mathlib.Core.Path.{◌≡◌, sym, ap, ◌∙◌}
use mathlib.Core.List.{List}
use Prim.Native.Nat.{ℕ}
use lib.ListN.{length}
use Rattle.std.proofs.lemmas.Result.{err_from_is_err_and}
use Rattle.refusals.specs.declared.Refusal.{Refusal}
use Rattle.sheet.specs.Sheets.{is_sheet}
use Rattle.answer.specs.Answers.{in_room, answer_of, buffer_after}
use Rattle.outcomes.specs.Program.{session_outcome}
use Rattle.packing.proofs.Rooms.{packable_small}
use Rattle.answer.specs.Maker.{Maker}
use Rattle.session.specs.Walking.{records_of, lines_by}
use Rattle.session.proofs.Places.{no_sheet, its_sheet, lines_read, whole_read, whole_refused, none_refused}
use Rattle.session.proofs.session.Goals as goal

pub returns-in_err-sheet : goal.returns-in_err-sheet
unfolding answer_of buffer_after
returns-in_err-sheet c =
    let d = c.args.d.now in
    let r = c.in_err-sheet.field-0.0 in
    let n = no_sheet d r (is_sheet d) (sym c.in_err-sheet.ensures) in
    let w = none_refused d n.0 (length c.args.out.now) in
    let p = err_from_is_err_and c.from_residual.result c.from_residual.ensures.1 in
    rw (p.1, p.2, sym n.1) (record {
      answer = ap answer_of (sym w.0);
      buffer = ap (buffer_after c.args.out.now) (sym w.0);
      packable = packable_small Refusal.NotASheet w.1;
    })

pub reading-requires : goal.reading-requires
reading-requires c = c.in_ok-n.ensures.keeps.read

pub returns-in_err-n : goal.returns-in_err-n
unfolding answer_of buffer_after
returns-in_err-n c =
    let d = c.args.d.now in let s = c.in_ok-sheet.sheet in let room = length c.args.out.now in
    let e = its_sheet d s (is_sheet d) (sym c.in_ok-sheet.ensures) in
    let r = c.in_err-n.field-0.0 in
    let w = whole_refused s _ r c.in_err-n.ensures.told room in
    let v = ap (λ (x : List ℕ). session_outcome x room) e ∙ w.0 in
    let p = err_from_is_err_and c.from_residual-in_err-n.result c.from_residual-in_err-n.ensures.1 in
    rw (p.1, p.2) (record {
      answer = ap answer_of (sym v);
      buffer = ap (buffer_after c.args.out.now) (sym v);
      packable = packable_small r w.1;
    })

pub returns : goal.returns
returns c =
    let d = c.args.d.now in let s = c.in_ok-sheet.sheet in let room = length c.args.out.now in
    let e = its_sheet d s (is_sheet d) (sym c.in_ok-sheet.ensures) in
    let w =
    ap (λ (k : Maker). in_room room (lines_by k (records_of s))) c.reading.ensures
    ∙ ap (in_room room) (lines_read s _ c.in_ok-n.n c.in_ok-n.ensures.keeps.sheet)
    ∙ sym (whole_read s _ c.in_ok-n.n c.in_ok-n.ensures.told c.in_ok-n.ensures.keeps room)
    ∙ ap (λ (x : List ℕ). session_outcome x room) (sym e) in
    record {
      answer = c.all_records.ensures.answer ∙ ap answer_of w;
      buffer = c.all_records.ensures.buffer ∙ ap (buffer_after c.args.out.now) w;
      packable = c.all_records.ensures.packable;
    }
