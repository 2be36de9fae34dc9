-- `comparisons::spans_of` meets its contract. Assumes nothing.
use Rattle.comparisons.proofs.Laying.{spans_are}
use Rattle.comparisons.proofs.spans_of.Goals as goal

pub shared_end-rest-requires : goal.shared_end-rest-requires
shared_end-rest-requires c = ((c.shared_beginning-begun.ensures.left_inside.1, c.requires.left_within.1), (c.shared_beginning-begun.ensures.right_inside.1, c.requires.right_within.1))

pub returns : goal.returns
returns c = spans_are _ c.args.head c.args.left.from c.args.left.to c.args.right.from c.args.right.to c.shared_beginning-begun.result c.shared_end-rest.result c.shared_beginning-begun.ensures c.shared_end-rest.ensures
