-- `widths::counting::is_wide` meets its contract. Assumes nothing.
use mathlib.Core.Path.{sym, ◌∙◌}
use Rattle.points.specs.Ranges.{ends}
use Rattle.points.proofs.Lookup.{among_ends_lem}
use Rattle.widths.specs.Wide.{wide}
use Rattle.widths.specs.Widths.{is_wide}
use Rattle.widths.proofs.Stretches.{rising, narrow, ideograph}
use Rattle.widths.proofs.counting.is_wide.Goals as goal

pub returns-then-x-lt-FIRST : goal.returns-then-x-lt-FIRST
returns-then-x-lt-FIRST c = sym (narrow _ c.if-x-lt-FIRST.true)

pub returns-then-x-lt-LONG_END : goal.returns-then-x-lt-LONG_END
returns-then-x-lt-LONG_END c = sym (ideograph _ c.if-x-ge-LONG.true c.if-x-lt-LONG_END.true)

pub is_among-requires : goal.is_among-requires
unfolding ends wide
is_among-requires c = rising

pub returns : goal.returns
unfolding is_wide ends wide
returns c = c.is_among.ensures ∙ among_ends_lem wide c.args.x
