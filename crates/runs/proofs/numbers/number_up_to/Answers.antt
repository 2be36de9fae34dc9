-- `number_up_to` meets its contract: the loop keeps what the digits so far and those from here on say. Assumes nothing.
use native.Mathlib.Omega.{arith}
use mathlib.Core.Path.{sym, ◌∙◌}
use Rattle.runs.proofs.Counting.{decimal_on, decimal_end, decimal_over, decimal_within}
use Rattle.runs.proofs.numbers.number_up_to.Goals as goal

pub returns-then-from-n : goal.returns-then-from-n
returns-then-from-n c =
    let d = sym (decimal_on _ _ _ _ c.loop-b-test.true (c.from.ensures ∙ c.saturating_sub.ensures)) ∙ c.loop-b.invariant.1 in
    let m = c.from-in-loop-b.ensures in
    let h = c.if-from-n.true in
    decimal_over _ _ _ _ d (omega arith)

pub loop-b-preserved : goal.loop-b-preserved
loop-b-preserved c =
    let d = sym (decimal_on _ _ _ _ c.loop-b-test.true (c.from.ensures ∙ c.saturating_sub.ensures)) ∙ c.loop-b.invariant.1 in
    let m = c.from-in-loop-b.ensures in
    let h = c.if-from-n.false in
    (omega arith, d)

pub returns : goal.returns
returns c = decimal_within _ _ _ (sym (decimal_end _ _ _ c.loop-b-test.false) ∙ c.loop-b.invariant.1) c.loop-b.invariant.0
