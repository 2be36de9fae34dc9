-- `checking::check_template` meets its contract. Assumes nothing.
use Rattle.std.proofs.Common.{◌∙◌, rules}
use Rattle.checking.proofs.Naming.{packs, checked}
use Rattle.checking.proofs.check_template.Goals as goal

pub pack-requires : goal.pack-requires
pack-requires c = packs _ _ _ _ _ _ c.parse_asked.ensures.cells_after (λ n k h. search rules) c.map.ensures.cases

pub returns : goal.returns
returns c = c.pack.ensures ∙ checked _ _ _ _ _ _ c.parse_asked.ensures.cells_after (λ n k h. search rules) c.map.ensures.cases
