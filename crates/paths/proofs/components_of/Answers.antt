-- `paths::components_of` meets its contract. Assumes nothing.
use Rattle.std.proofs.Common.{sym, ◌∙◌}
use Rattle.paths.proofs.Pieces.{alone, plain}
use Rattle.paths.proofs.components_of.Goals as goal

pub returns-then-not-begins_alone : goal.returns-then-not-begins_alone
returns-then-not-begins_alone c = sym (plain c.args.path.now (sym c.begins_alone.ensures ∙ c.if-not-begins_alone.true))

pub split_at-requires : goal.split_at-requires
split_at-requires c = (alone c.args.path.now (sym c.begins_alone.ensures ∙ c.if-not-begins_alone.false)).0

pub returns : goal.returns
returns c =
    let e = (alone c.args.path.now (sym c.begins_alone.ensures ∙ c.if-not-begins_alone.false)).1 in
    rw (c.split_at.ensures.front, c.split_at.ensures.back) (sym e)
