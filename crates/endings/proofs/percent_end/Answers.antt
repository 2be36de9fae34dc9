-- `endings::percent_end` meets its contract. Assumes nothing.
use Rattle.runs.proofs.Running.{stands_before}
use Rattle.endings.proofs.Ended.{percent_nowhere, percent_there}
use native.Mathlib.Omega.{arith}
use mathlib.Core.Path.{sym, ◌∙◌}
use Rattle.endings.proofs.percent_end.Goals as goal

pub returns-then-not-stands_at-clause-value : goal.returns-then-not-stands_at-clause-value
returns-then-not-stands_at-clause-value c = percent_nowhere _ _ _ (sym c.stands_at.ensures ∙ c.if-not-stands_at.true)

pub parameter_end-requires : goal.parameter_end-requires
parameter_end-requires c = let b = stands_before _ _ _ _ (sym c.stands_at.ensures ∙ c.if-not-stands_at.false) in omega arith

pub returns-clause-value : goal.returns-clause-value
returns-clause-value c = c.parameter_end.ensures.value ∙ percent_there _ _ _ (sym c.stands_at.ensures ∙ c.if-not-stands_at.false)
