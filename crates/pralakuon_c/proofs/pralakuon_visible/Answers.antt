-- `pralakuon_c::pralakuon_visible` meets its contract. Assumes nothing.
use mathlib.Core.Path.{ap, ◌∙◌}
use Rattle.packing.specs.Packing.{packed_answer}
use Rattle.answer.proofs.Answering.{packed_answer_lem}
use Rattle.visible.specs.Visible.{visible_entry}
use Rattle.pralakuon_c.proofs.pralakuon_visible.Goals as goal

pub returns : goal.returns
returns c =
    let o = visible_entry c.args.s.now c.args.out.now in
    record { returned = c.pack.ensures ∙ ap packed_answer c.visible_text.ensures.answer ∙ packed_answer_lem o; buffer = c.visible_text.ensures.buffer }
