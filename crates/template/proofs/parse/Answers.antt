-- `parse` meets its contract. Assumes nothing.
use borrow.Author.Tests.{eqb-true, ltb-true}
use native.Mathlib.Omega.{arith}
use mathlib.Core.Path.{sym, ◌∙◌}
use Rattle.utf8.specs.Windows.{top_of}
use Rattle.utf8.proofs.Reached.{ascii_valid}
use Rattle.letters.proofs.Doubting.{undoubted, ascii_unmarked}
use Rattle.template.proofs.Editions.{judged_same, too_long_lem, not_text, is_read_lem}
use Rattle.template.proofs.parse.Goals as goal

pub returns-then-t-gt-LONG-clause-cells_after : goal.returns-then-t-gt-LONG-clause-cells_after
returns-then-t-gt-LONG-clause-cells_after c = too_long_lem _ _ c.if-t-gt-LONG.true

pub returns-then-is_ascii-clause-cells_after : goal.returns-then-is_ascii-clause-cells_after
returns-then-is_ascii-clause-cells_after c =
    let t = c.args.t.now in
    let low = ltb-true (top_of t) 0x80 (sym c.is_ascii.ensures ∙ c.if-is_ascii.true) in
    is_read_lem _ t (omega arith) (ascii_valid t low) _ (c.parse_by.ensures.cells_after ∙ judged_same _ _ _ (sym (ascii_unmarked t low)))

pub returns-then-not-is_utf8-clause-cells_after : goal.returns-then-not-is_utf8-clause-cells_after
returns-then-not-is_utf8-clause-cells_after c = not_text _ _ (omega arith) (sym c.is_utf8.ensures ∙ c.if-not-is_utf8.true)

pub returns-then-is_unmarked-clause-cells_after : goal.returns-then-is_unmarked-clause-cells_after
returns-then-is_unmarked-clause-cells_after c =
    let same = undoubted _ (eqb-true _ 0 (sym c.is_unmarked.ensures ∙ c.if-is_unmarked.true)) in
    is_read_lem _ _ (omega arith) (sym c.is_utf8.ensures ∙ c.if-not-is_utf8.false) _ (c.parse_by-then-is_unmarked.ensures.cells_after ∙ judged_same _ _ _ (sym same))

pub returns-clause-cells_after : goal.returns-clause-cells_after
returns-clause-cells_after c = is_read_lem _ _ (omega arith) (sym c.is_utf8.ensures ∙ c.if-not-is_utf8.false) _ c.parse_marked.ensures.cells_after
