-- `comparisons::comparison_in` meets its contract. Assumes nothing.
use native.Mathlib.Omega.{arith}
use mathlib.Core.Path.{◌≡◌, sym, subst, ◌∙◌}
use Prim.Native.Nat.{ℕ}
use mathlib.Core.List.{List}
use Rattle.std.proofs.Common.{Option}
use Rattle.buffer.specs.Bytes.{part}
use Rattle.comparisons.specs.declared.Spans.{Spans}
use Rattle.comparisons.specs.Comparisons.{comparison}
use Rattle.comparisons.specs.Places.{layout_by, layout_for, SpansWithin}
use Rattle.comparisons.proofs.Marking.{nothing_said, nothing_few, nothing_left, nothing_right, both}
use Rattle.comparisons.proofs.Closing.{not_closed}
use Rattle.comparisons.proofs.comparison_in.Goals as goal

-- what is said of a message by the places found in it
abbrev Says : List ℕ → ℕ → ℕ → Option Spans → Type 0
Says d from to r = (layout_by d from r ≡ layout_for (comparison (part from to d))) × SpansWithin from to r

pub returns-then-not-is_closed : goal.returns-then-not-is_closed
returns-then-not-is_closed c = (nothing_said _ c.args.from _ (not_closed (part c.args.from c.args.to c.args.d.now) (sym c.is_closed.ensures ∙ c.if-not-is_closed.true)), tt)

pub returns-in_err-p : goal.returns-in_err-p
returns-in_err-p c =
    subst (Says c.args.d.now c.args.from c.args.to) (sym c.from_residual.ensures) (nothing_few _ c.args.from (part c.args.from c.args.to c.args.d.now) c.in_err-p.ensures.0, tt)

pub returns-in_err-left : goal.returns-in_err-left
returns-in_err-left c =
    let d = c.args.d.now in
    subst (Says d c.args.from c.args.to) (sym c.from_residual-in_err-left.ensures)
    (nothing_left d c.args.from (part c.args.from c.args.to d) c.in_ok-p.p c.in_ok-p.ensures.0 c.in_err-left.ensures.0, tt)

pub returns-in_err-right : goal.returns-in_err-right
returns-in_err-right c =
    let d = c.args.d.now in
    subst (Says d c.args.from c.args.to) (sym c.from_residual-in_err-right.ensures)
    (nothing_right d c.args.from (part c.args.from c.args.to d) c.in_ok-p.p c.in_ok-p.ensures.0 c.in_err-right.ensures.0, tt)

pub returns : goal.returns
returns c =
    let d = c.args.d.now in
    let p = c.in_ok-p.p in
    let w = c.in_ok-p.ensures.1 in
    let s = c.spans_of.ensures in
    let x = c.in_ok-left.ensures in
    let y = c.in_ok-right.ensures in (
      both d c.args.from (part c.args.from c.args.to d) p c.in_ok-p.ensures.0 c.spans_of.result c.in_ok-left.left c.in_ok-right.right x.0 y.0 s,
      (
        (omega (arith, s.head_is, w.0.0, x.1.0), omega (arith, s.head_is, s.left_is, x.1.0)),
        (
          (omega (arith, s.left_to, s.right_is, w.1.0, x.1.1.1, y.1.0), omega (arith, s.right_to, w.1.1.1, y.1.1.1)),
          (s.left_ordered, s.right_ordered),
        ),
      ),
    )
