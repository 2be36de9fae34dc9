-- `checking::parse_asked` meets its contract. Assumes nothing.
use mathlib.Core.Path.{sym, ◌∙◌}
use Rattle.checking.proofs.Naming.{asked_known, asked_unknown}
use Rattle.checking.proofs.parse_asked.Goals as goal

pub returns-then-is_known : goal.returns-then-is_known
returns-then-is_known c =
    record {
      cells_after = asked_known _ _ (sym c.is_known.ensures ∙ c.if-is_known.true) _ c.edition_of.ensures _ c.parse.ensures.cells_after;
      keeps = c.parse.ensures.keeps;
    }

pub returns : goal.returns
returns c =
    record {
      cells_after = asked_unknown _ _ (sym c.is_known.ensures ∙ c.if-is_known.false) c.args.cells.now;
      keeps = tt;
    }
