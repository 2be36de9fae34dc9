-- `word_index` meets its contract: the loop keeps the index that the whole table gives. Assumes nothing.
use Prim.Native.Nat.{◌+◌}
use mathlib.Core.Path.{◌≡◌}
use lib.ListN.{drop}
use Rattle.spelling.specs.Tables.{compared, words_in, index_of}
use Rattle.spelling.proofs.word_index.Given as goal

abbrev pub invariant-loop-index : goal.invariant-loop-index
invariant-loop-index l =
    l.index + index_of (words_in (drop l.index l.lengths) l.rest) (compared l.caseless l.word)
    ≡ index_of (words_in l.lengths l.letters) (compared l.caseless l.word)
