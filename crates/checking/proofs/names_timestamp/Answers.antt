-- `checking::names_timestamp` meets its contract. Assumes nothing.
use Rattle.std.proofs.Common.{◌∙◌, rules}
use Rattle.checking.proofs.Naming.{packs, timed, one_or_none}
use Rattle.checking.proofs.names_timestamp.Goals as goal

pub pack-requires : goal.pack-requires
pack-requires c = packs _ _ _ _ _ _ c.parse_asked-read.ensures.cells_after (λ n k h. search (rules, one_or_none)) c.map.ensures.cases

pub returns : goal.returns
returns c = c.pack.ensures ∙ timed _ _ _ _ _ _ c.parse_asked-read.ensures.cells_after (λ n k h. search rules) c.map.ensures.cases
