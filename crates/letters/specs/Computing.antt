-- Scaffolding, for proofs alone: what the definitions of this layer compute by, in one name: `unfolding computes` opens them all. Assumes nothing.
use Rattle.letters.specs.Alphabetic.{alphabetic}
use Rattle.letters.specs.Letters.{is_alphabetic}
use Rattle.letters.specs.Marked.{opens_letter, left_in, letter_in, seen_as, marked_on, marked}

unfoldable pub computes : Unit {0}
unfolding alphabetic is_alphabetic opens_letter left_in letter_in seen_as marked_on marked
computes = tt
