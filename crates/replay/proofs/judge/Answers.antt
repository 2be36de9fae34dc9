-- `replay::judge` meets its contract. Assumes nothing.
use Rattle.std.proofs.Common.{sym}
use Rattle.replay.proofs.Saying.{skipped, compares}
use Rattle.replay.proofs.judge.Goals as goal

pub returns-then-n-eq255 : goal.returns-then-n-eq255
returns-then-n-eq255 c = sym (skipped _ _ _ c.if-n-eq255.true)

pub returns-then-answers_so : goal.returns-then-answers_so
returns-then-answers_so c = sym (compares _ _ _ _ c.if-n-eq255.false c.if-answers_so.ensures)

pub returns : goal.returns
returns c = sym (compares _ _ _ _ c.if-n-eq255.false c.if-answers_so.ensures)
