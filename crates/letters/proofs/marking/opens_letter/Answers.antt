-- `letters::marking::opens_letter` meets its contract: the table's order is carried to the search. Assumes nothing.
use mathlib.Core.Path.{sym, ◌∙◌}
use Rattle.points.specs.Ranges.{ends}
use Rattle.points.proofs.Lookup.{among_ends_lem}
use Rattle.letters.specs.Alphabetic.{alphabetic}
use Rattle.letters.specs.Letters.{is_alphabetic}
use Rattle.letters.proofs.Marks.{opens_not, opens_by}
use Rattle.letters.proofs.Rising.{rising}
use Rattle.letters.proofs.marking.opens_letter.Goals as goal

pub returns-then-a-lt192 : goal.returns-then-a-lt192
returns-then-a-lt192 c = sym (opens_not c.args.t.now c.args.i c.if-a-lt192.true)

pub is_among-requires : goal.is_among-requires
unfolding ends alphabetic
is_among-requires c = rising

pub returns : goal.returns
unfolding is_alphabetic ends alphabetic
returns c =
    c.is_among.ensures
    ∙ among_ends_lem alphabetic c.point.result
    ∙ opens_by c.args.t.now c.args.i c.if-a-lt192.false _ _ _ _ c.byte_at.ensures c.byte_at-2.ensures c.byte_at-3.ensures c.point.ensures
