-- `plain_end` meets its contract. Assumes nothing.
use Rattle.std.proofs.lemmas.Grind.{common_steps}
use native.Mathlib.Omega.{arith}
use Rattle.std.proofs.lemmas.Iterator.{YieldsList-from_slice}
use Rattle.std.proofs.lemmas.Iterator.Search.{YieldsList-from_take_while}
use Rattle.std.proofs.lemmas.Iterator.Consumers.{count_from_yields_List}
use Prim.Native.Nat.{◌+◌}
use mathlib.Core.Path.{ap, ◌∙◌}
use Rattle.buffer.specs.Bytes.{part}
use Rattle.building.specs.Reading.{plain_byte}
use Rattle.runs.proofs.Running.{run_lead}
use Rattle.lists.proofs.plain_end.Goals as goal

pub returns-clause-value : goal.returns-clause-value
unfolding plain_byte
returns-clause-value c =
    let w = part c.args.from c.args.to c.args.t.now in
    ap (λ n. c.args.from + n)
    (count_from_yields_List c.take_while.result c.count.result c.count.ensures.ran
    (YieldsList-from_take_while _ plain_byte (YieldsList-from_slice w cc) c.take_while.ensures.closure c.take_while.ensures.done (λ x b q k. grind (arith, common_steps, k))))
    ∙ run_lead plain_byte c.args.t.now c.args.from c.args.to c.requires.0 c.requires.1
