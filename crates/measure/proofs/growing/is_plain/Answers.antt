-- `measure::growing::is_plain` meets its contract. Assumes nothing.
use Rattle.std.proofs.Common.{◌∙◌, sym, arith}
use Rattle.std.proofs.lemmas.Grind.{common_steps}
use Rattle.std.proofs.lemmas.Iterator.{YieldsList-from_slice}
use Rattle.std.proofs.lemmas.Iterator.Search.{all_from_yields_List}
use Rattle.measure.proofs.Plain.{is_plain_byte, plain_all}
use Rattle.measure.proofs.growing.is_plain.Goals as goal

pub returns : goal.returns
returns c =
    all_from_yields_List is_plain_byte _ _ c.all.result c.all.ensures.ran (YieldsList-from_slice c.args.s.now cc) (λ x b q k. grind (arith, common_steps, k))
    ∙ sym (plain_all c.args.s.now)
