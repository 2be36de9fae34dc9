-- `answer::Reading::put_line` meets its contract, by what the level number means. Assumes nothing.
use Rattle.std.proofs.Common.{◌≡◌, ◌∙◌, sym, ap}
use mathlib.Core.Logic.{inl, inr}
use Rattle.colour.specs.Shown.{text_of}
use Rattle.fields.specs.Lines.{print_shown}
use Rattle.record.specs.Contents.{record_of}
use Rattle.record.specs.Placed.{laid_by}
use Rattle.leaves.specs.Places.{record_by}
use Rattle.answer.specs.Maker.{Maker}
use Rattle.answer.specs.Rooms.{segments_of, line_by}
use Rattle.answer.proofs.Answering.{lent, writable, line_print, line_refused, line_level}
use Rattle.answer.proofs.Reading.put_line.Goals as goal

pub write_line-requires : goal.write_line-requires
write_line-requires c =
    let x = c.self.inside in
    writable c.args.d.now (record { places = c.args.places; spans = c.comparison_of.result }) c.requires c.comparison_of.ensures x.template.now x.cells.now x.count c.self.invariant

pub put_message-requires : goal.put_message-requires
put_message-requires c = lent c.args.d.now (record { places = c.args.places; spans = c.comparison_of.result }) c.requires c.comparison_of.ensures

pub returns-in-Named : goal.returns-in-Named
unfolding laid_by record_by
returns-in-Named c =
    let m : Maker = record { form = c.self.inside.form; settings = c.self.inside.settings; template = c.self.inside.template.now; cells = c.self.inside.cells.now; count = c.self.inside.count } in
    let l = laid_by c.args.places c.args.d.now in
    let e = ap (λ (k : Maker). line_by k l) (sym c.self.view_is) ∙ line_level m.settings m.template (segments_of m) l _ c.level_of.ensures _ _ c.in-Named.is in
    (rw e c.write_line.ensures.0, rw e c.write_line.ensures.1)

pub returns-in-Print : goal.returns-in-Print
unfolding laid_by record_by
returns-in-Print c =
    let m : Maker = record { form = c.self.inside.form; settings = c.self.inside.settings; template = c.self.inside.template.now; cells = c.self.inside.cells.now; count = c.self.inside.count } in
    let l = laid_by c.args.places c.args.d.now in
    let f : line_by m l ≡ text_of m.settings (print_shown (record_of l)) = elim c.in-Print.is [
      | inl w ↦ line_print m.settings m.template (segments_of m) l _ c.level_of.ensures w
      | inr w ↦ line_refused m.settings m.template (segments_of m) l _ c.level_of.ensures w
    ] in
    let e = ap (λ (k : Maker). line_by k l) (sym c.self.view_is) ∙ f in
    (rw e c.put_message.ensures.0, rw e c.put_message.ensures.1)
