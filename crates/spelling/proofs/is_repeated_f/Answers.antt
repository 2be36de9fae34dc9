-- `is_repeated_f` meets its contract. Assumes nothing.
use Rattle.std.proofs.Common.{rules, tests}
use Rattle.std.proofs.lemmas.Iterator.{YieldsList-from_slice}
use Rattle.std.proofs.lemmas.Iterator.Search.{all_from_yields_List}
use mathlib.Core.Path.{◌∙◌}
use lib.Dec.{eqb}
use Rattle.spelling.proofs.Seeing.{repeats_same}
use Rattle.spelling.proofs.is_repeated_f.Goals as goal

pub returns : goal.returns
returns c =
    let w = c.args.word.now in
    all_from_yields_List (λ b. eqb b 0x66) _ _ _ c.all.ensures.ran (YieldsList-from_slice w cc) (λ x b q k. search (rules, tests)) ∙ repeats_same 0x66 w
