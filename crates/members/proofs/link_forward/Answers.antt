-- `members::link_forward` meets its contract. Assumes nothing.
use mathlib.Core.Path.{sym}
use Rattle.members.proofs.Forwards.{linked_first, linked_after}
use Rattle.members.proofs.link_forward.Goals as goal

pub returns-then-b-eq0 : goal.returns-then-b-eq0
returns-then-b-eq0 c = sym (linked_first _ _ _ c.if-b-eq0.true)

pub returns : goal.returns
returns c = sym (linked_after _ _ _ c.if-b-eq0.false)
