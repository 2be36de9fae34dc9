-- `replay::lines_so` meets its contract. Assumes nothing.
use Rattle.std.proofs.Common.{sym, ◌∙◌}
use Rattle.replay.proofs.Saying.{found_same, own_lines, no_lines, no_lines_above, record_lines_lem}
use Rattle.replay.proofs.lines_so.Goals as goal
use Rattle.replay.proofs.lines_so.Goals.{then-n-lt11-via-then-n-lt11, then-n-lt11-via-else-n-lt11+then-n-gt14}

pub returns-then-n-eq0 : goal.returns-then-n-eq0
returns-then-n-eq0 c = found_same _ _ _ c.eq.ensures ∙ sym (own_lines _ _ _ c.if-n-eq0.true)

pub returns-then-n-lt11 : goal.returns-then-n-lt11
returns-then-n-lt11 c = elim c.then-n-lt11.branch [
  | then-n-lt11-via-then-n-lt11 w ↦ sym (no_lines _ _ _ c.if-n-eq0.false w.if-n-lt11.true)
  | then-n-lt11-via-else-n-lt11+then-n-gt14 w ↦ sym (no_lines_above _ _ _ c.if-n-eq0.false w.if-n-gt14.true)
]

pub returns : goal.returns
returns c =
    found_same _ _ _ c.eq-2.ensures ∙ sym (record_lines_lem _ _ _ c.if-n-eq0.false c.if-n-lt11.false c.if-n-gt14.false)
