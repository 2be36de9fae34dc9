-- `members::member_after` meets its contract. Assumes nothing.
use mathlib.Core.Path.{sym, ◌∙◌}
use Rattle.members.proofs.Forwards.{after_none, after_some}
use Rattle.members.proofs.member_after.Goals as goal

pub returns-then-j-eq0 : goal.returns-then-j-eq0
returns-then-j-eq0 c = c.from.ensures ∙ sym (after_none _ _ _ c.if-j-eq0.true)

pub returns : goal.returns
returns c = c.from-2.ensures ∙ sym (after_some _ _ _ c.if-j-eq0.false)
