-- `LetterDemand` holds. Assumes nothing.
use Rattle.letters.specs.Letters.{sorted_and_disjoint}
use Rattle.letters.proofs.Characters.{decided, one_by_one, as_it_is, ascii_as_it_is}
use Rattle.letters.proofs.Inside.{never_inside}
use Rattle.letters.proofs.Marks.{marked_length}
use Rattle.demands.specs.LetterDemand.{LetterDemand}

pub letter_demand : LetterDemand
letter_demand = record {
  decided = decided;
  as_it_is = as_it_is;
  ascii_as_it_is = ascii_as_it_is;
  one_by_one = one_by_one;
  in_order = sorted_and_disjoint;
  whole = never_inside;
  in_place = marked_length;
}
