-- `word_index` meets its contract: the loop keeps the index that the whole table gives. Assumes nothing.
use native.Mathlib.Nat.{zero-add}
use mathlib.Core.Path.{sym, ◌∙◌}
use Rattle.spelling.proofs.Indexing.{index_found, index_again, index_end}
use Rattle.spelling.proofs.word_index.Goals as goal

pub loop-index-init : goal.loop-index-init
loop-index-init c = zero-add _

pub returns-then-is_word : goal.returns-then-is_word
returns-then-is_word c =
    index_found _ _ _ _ _ c.loop-index.invariant c.loop-index-test.true _ c.from.ensures _ c.min.ensures _ _ c.split_at.ensures.front c.split_at.ensures.back
    (sym c.is_word.ensures ∙ c.if-is_word.true)

pub loop-index-preserved : goal.loop-index-preserved
loop-index-preserved c =
    index_again _ _ _ _ _ c.loop-index.invariant c.loop-index-test.true _ c.from.ensures _ c.min.ensures _ _ c.split_at.ensures.front c.split_at.ensures.back
    (sym c.is_word.ensures ∙ c.if-is_word.false)

pub returns : goal.returns
returns c = index_end _ _ _ _ _ c.loop-index.invariant c.loop-index-test.false
