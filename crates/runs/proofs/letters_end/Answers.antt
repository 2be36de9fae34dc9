-- `letters_end` meets its contract. Assumes nothing.
use Rattle.std.proofs.Common.{rules, tests}
use Rattle.std.proofs.lemmas.Iterator.{YieldsList-from_slice}
use Rattle.std.proofs.lemmas.Iterator.Search.{YieldsList-from_take_while}
use Rattle.std.proofs.lemmas.Iterator.Consumers.{count_from_yields_List}
use Prim.Native.Nat.{◌+◌}
use mathlib.Core.Path.{ap, ◌∙◌}
use Rattle.buffer.specs.Bytes.{part}
use Rattle.runs.specs.Runs.{letter}
use Rattle.runs.proofs.Running.{run_lead}
use Rattle.runs.proofs.letters_end.Goals as goal

pub returns-clause-value : goal.returns-clause-value
returns-clause-value c =
    let w = part c.args.from c.args.to c.args.t.now in
    ap (λ n. c.args.from + n)
    (count_from_yields_List c.take_while.result c.count.result c.count.ensures.ran
    (YieldsList-from_take_while _ letter (YieldsList-from_slice w cc) c.take_while.ensures.closure c.take_while.ensures.done (λ x b q k. search (rules, tests))))
    ∙ run_lead letter c.args.t.now c.args.from c.args.to c.requires.0 c.requires.1
