-- `members::forward` meets its contract. Assumes nothing.
use mathlib.Core.Path.{sym, ap, ◌∙◌}
use mathlib.Core.List.{List}
use Rattle.members.specs.declared.Link.{Link}
use Rattle.members.specs.Links.{linked_by}
use Rattle.members.proofs.Forwards.{links_none, links_more}
use Rattle.members.proofs.forward.Goals as goal

pub loop-i-init : goal.loop-i-init
loop-i-init c = sym (links_none _ _)

pub loop-i-preserved : goal.loop-i-preserved
loop-i-preserved c =
    c.link_forward.ensures ∙ ap (λ (a : List Link). linked_by a c.loop-i.i c.back_at.result) c.loop-i.invariant
    ∙ sym (links_more c.args.cells.now c.args.links.now c.loop-i.i c.back_at.result c.back_at.ensures.0)
