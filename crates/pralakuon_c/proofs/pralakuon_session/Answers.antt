-- `pralakuon_c::pralakuon_session` meets its contract. Assumes nothing.
use mathlib.Core.Path.{ap, ◌∙◌}
use Rattle.packing.specs.Packing.{packed_answer}
use Rattle.answer.proofs.Answering.{packed_answer_lem}
use Rattle.outcomes.specs.Program.{session_entry}
use borrow.Author.Rules.{rules}
use Rattle.pralakuon_c.proofs.pralakuon_session.Goals as goal

pub returns : goal.returns
returns c =
    let o = session_entry c.args.d.now c.args.out.now in
    record { returned = c.pack.ensures ∙ ap packed_answer c.session.ensures.answer ∙ packed_answer_lem o; buffer = search rules }
