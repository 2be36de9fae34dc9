-- The table's ends rise. Assumes nothing.
use Rattle.points.specs.Ranges.{ends}
use Rattle.points.specs.Searching.{Rising}
use Rattle.points.proofs.Order.{rises}
use Rattle.letters.specs.Alphabetic.{alphabetic}
use Rattle.letters.specs.Letters.{sorted_and_disjoint}

pub rising : Rising (ends alphabetic)
rising = rises 0 (ends alphabetic) sorted_and_disjoint
