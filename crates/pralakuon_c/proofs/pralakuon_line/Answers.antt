-- `pralakuon_c::pralakuon_line` meets its contract. Assumes nothing.
use mathlib.Core.Path.{ap, ◌∙◌}
use Rattle.answer.specs.Answers.{line_entry}
use Rattle.packing.specs.Packing.{packed_answer}
use Rattle.answer.proofs.Answering.{packed_answer_lem}
use Rattle.pralakuon_c.proofs.pralakuon_line.Goals as goal

pub returns : goal.returns
returns c =
    let o = line_entry c.args.t.now c.args.settings c.args.d.now c.args.out.now in
    record { returned = c.pack.ensures ∙ ap packed_answer c.line.ensures.answer ∙ packed_answer_lem o; buffer = c.line.ensures.buffer }
