-- `builtin::length_of` meets its contract. Assumes nothing.
use Rattle.builtin.proofs.Rule.{lengths, row}
use Rattle.builtin.proofs.length_of.Goals as goal

pub returns : goal.returns
unfolding lengths
returns c =
    let r = row c.args.k c.requires in
    (r.size, r.short)
