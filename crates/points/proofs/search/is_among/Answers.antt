-- `points::search::is_among` meets its contract. Assumes nothing.
use Rattle.std.proofs.Common.{rules, tests}
use Rattle.std.proofs.lemmas.List.Sorted.{IsPartitionPoint-from_clause, IsPartitionedBy-leb}
use lib.Dec.{leb}
use Rattle.points.proofs.Halving.{never_falls, parted}
use Rattle.points.proofs.Lookup.{ends_odd}
use Rattle.points.proofs.search.is_among.Goals as goal

pub returns : goal.returns
returns c =
    let xs = c.args.table.now in
    let x = c.args.x in
    ends_odd xs x _
    (parted xs x _ c.partition_point.ensures.bound
    (IsPartitionPoint-from_clause (λ y. leb y x) xs _ c.partition_point.ensures.partitioned (IsPartitionedBy-leb (λ y. y) xs x (never_falls xs c.requires)) (λ a r f k. search (rules, tests))))
