-- `builtin::put_chosen` meets its contract. Assumes nothing.
use mathlib.Core.Path.{ap, ◌∙◌}
use lib.ListN.{length}
use Rattle.buffer.specs.Buffer.{written}
use Rattle.builtin.proofs.Choices.{chosen_as}
use Rattle.builtin.proofs.put_chosen.Goals as goal

pub returns : goal.returns
returns c =
    let e = chosen_as c.args.style c.args.location c.args.timestamp c.args.host _ _ _ _ c.style_of.ensures c.is_yes.ensures c.is_yes-2.ensures c.is_yes-3.ensures in
    (c.put_builtin.ensures.0 ∙ ap length e, c.put_builtin.ensures.1 ∙ ap (written c.args.out.now) e)
