-- `pralakuon_c::pralakuon_builtin` meets its contract. Assumes nothing.
use mathlib.Core.Path.{sym, ap, subst, ◌∙◌}
use native.Mathlib.Omega.{arith}
use lib.ListN.{length}
use Rattle.answer.specs.Answers.{in_room}
use Rattle.packing.specs.Packing.{packed_answer, answer_in, Packable}
use Rattle.answer.proofs.Answering.{answer_in_room, buffer_in_room, packed_answer_lem}
use Rattle.packing.proofs.Rooms.{packable_in}
use Rattle.builtin.specs.Choices.{chosen}
use Rattle.builtin.proofs.Choices.{chosen_short}
use Rattle.pralakuon_c.proofs.pralakuon_builtin.Goals as goal

pub pack-requires : goal.pack-requires
pack-requires c =
    let small = chosen_short c.args.style c.args.location c.args.timestamp c.args.host in
    subst Packable (sym c.answer_in.ensures) (packable_in _ _ (omega (arith, small, c.put_chosen-n.ensures.0)))

pub returns : goal.returns
returns c =
    let d = c.args.out.now in
    let x = chosen c.args.style c.args.location c.args.timestamp c.args.host in
    let a = c.answer_in.ensures ∙ ap (answer_in (length d)) c.put_chosen-n.ensures.0 ∙ answer_in_room (length d) x in
    record { returned = c.pack.ensures ∙ ap packed_answer a ∙ packed_answer_lem (in_room (length d) x); buffer = c.put_chosen-n.ensures.1 ∙ buffer_in_room d x }
