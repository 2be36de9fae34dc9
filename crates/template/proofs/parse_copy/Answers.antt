-- `parse_copy` meets its contract: what stands at the front of the copy is the template, marked. Assumes nothing.
use mathlib.Core.Path.{ap, ◌∙◌}
use lib.ListN.{length, take}
use Rattle.template.proofs.Editions.{judged_same}
use Rattle.template.proofs.Topped.{marked_front}
use Rattle.template.proofs.parse_copy.Goals as goal

pub returns-clause-cells_after : goal.returns-clause-cells_after
returns-clause-cells_after g c = c.parse_by.ensures.cells_after ∙ judged_same _ _ _ (ap (take (length c.args.t.now)) c.mark_letters.ensures ∙ marked_front _ _)
