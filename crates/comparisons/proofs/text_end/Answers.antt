-- `comparisons::text_end` meets its contract. Assumes nothing.
use native.Mathlib.Omega.{arith}
use Prim.Native.Nat.{◌-◌}
use mathlib.Core.Path.{◌≡◌, sym, ap, ◌∙◌}
use Rattle.buffer.specs.Bytes.{part}
use Rattle.comparisons.specs.Places.{unended}
use Rattle.comparisons.proofs.Closing.{unended_nil, unended_at, unended_whole}
use Rattle.comparisons.proofs.Parts.{part_none}
use Rattle.comparisons.proofs.text_end.Goals as goal
use Rattle.comparisons.proofs.text_end.Goals.{else-from-to-via-then-from-to+else-d-to-eq10, else-from-to-via-else-from-to}

pub returns-then-d-to-eq10 : goal.returns-then-d-to-eq10
returns-then-d-to-eq10 c =
    let d = c.args.d.now in
    let h = c.if-from-to.true in (
      (c.ended_line.ensures.1.0.0, omega (arith, c.ended_line.ensures.1.0.1)),
      c.ended_line.ensures.1.1 ∙ sym (unended_at d c.args.from c.args.to (c.args.to - 1) (omega (arith, h)) (omega (arith, h)) (omega (arith, h)) c.if-d-to-eq10.true),
    )

pub returns : goal.returns
returns c =
    let d = c.args.d.now in
    let from = c.args.from in
    let to = c.args.to in
    let whole : part from to d ≡ unended (part from to d) =
    elim c.else-from-to.branch [
      | else-from-to-via-then-from-to+else-d-to-eq10 w ↦ sym (unended_whole d from to (to - 1) (omega (arith, w.if-from-to.true)) (omega (arith, w.if-from-to.true)) (omega (arith, w.if-from-to.true)) w.if-d-to-eq10.false)
      | else-from-to-via-else-from-to w ↦ let z = part_none d from to w.if-from-to.false in z ∙ sym (ap unended z ∙ unended_nil)
    ] in
    ((c.requires.0, omega arith), whole)
