-- `take_until_unbalanced` meets its contract: one law for each byte. Assumes nothing.
use native.Mathlib.Omega.{arith}
use mathlib.Core.Path.{sym, ◌∙◌}
use Rattle.braces.specs.Braces.{closing}
use Rattle.braces.proofs.Closings.{closing_skips, closing_escapes, closing_opens, closing_here, closing_closes, closing_passes, closing_end}
use Rattle.braces.proofs.take_until_unbalanced.Goals as goal
use Rattle.braces.proofs.take_until_unbalanced.Goals.{then-escaped, else-escaped+in-92, else-escaped+in-123, else-escaped+in-125-2, else-escaped+in_default-2}

pub returns-in-125-clause-value : goal.returns-in-125-clause-value
returns-in-125-clause-value c =
    let h = rw c.if-escaped.false at c.loop-i.invariant.onward in
    sym (closing_here _ _ _ _ c.loop-i-test.true c.in-125.is c.if-open-eq0.true) ∙ h

pub loop-i-preserved : goal.loop-i-preserved
loop-i-preserved c =
    let i = c.loop-i in
    let on = i.invariant.onward in
    let few = i.invariant.few in
    elim c.if-escaped.branch [
      | then-escaped w ↦ rw (w.open-is, w.escaped-is) (record { few = omega arith; onward = sym (closing_skips _ _ _ _ c.loop-i-test.true) ∙ rw w.if-escaped.true at on })
      | else-escaped+in-92 w ↦
          rw (w.open-is, w.escaped-is) (record { few = omega arith; onward = sym (closing_escapes _ _ _ _ c.loop-i-test.true w.in-92.is) ∙ rw w.if-escaped.false at on })
      | else-escaped+in-123 w ↦ rw (w.open-is, w.escaped-is, w.if-escaped.false)
          (record { few = omega arith; onward = sym (closing_opens _ _ _ _ c.loop-i-test.true w.in-123.is) ∙ rw w.if-escaped.false at on })
      | else-escaped+in-125-2 w ↦ rw (w.open-is, w.escaped-is, w.if-escaped.false)
          (record { few = omega arith; onward = sym (closing_closes _ _ _ _ c.loop-i-test.true w.in-125.is w.if-open-eq0.false) ∙ rw w.if-escaped.false at on })
      | else-escaped+in_default-2 w ↦ rw (w.open-is, w.escaped-is, w.if-escaped.false)
          (let no = w.in_default-2 in
          record { few = omega arith; onward = sym (closing_passes _ _ _ _ c.loop-i-test.true (λ q. omega arith) (λ q. omega arith) (λ q. omega arith)) ∙ rw w.if-escaped.false at on })
    ]

pub returns-then-escaped-2-clause-value : goal.returns-then-escaped-2-clause-value
unfolding closing
returns-then-escaped-2-clause-value c = sym (closing_end _ _ _ _ _ c.loop-i-test.false) ∙ rw c.if-escaped-2.true at c.loop-i.invariant.onward

pub returns-clause-value : goal.returns-clause-value
unfolding closing
returns-clause-value c = sym (closing_end _ _ _ _ _ c.loop-i-test.false) ∙ rw c.if-escaped-2.false at c.loop-i.invariant.onward
