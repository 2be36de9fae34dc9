-- `is_word` meets its contract. Assumes nothing.
use Rattle.std.proofs.Common.{rules, tests}
use Rattle.std.proofs.lemmas.Iterator.{YieldsList-from_slice, YieldsList-from_zip}
use Rattle.std.proofs.lemmas.Iterator.Search.{all_from_yields_List}
use mathlib.Core.Path.{sym, ◌∙◌}
use lib.Dec.{eqb}
use borrow.Author.Tests.{ne_eqb}
use Rattle.runs.proofs.Matching.{same_lengths}
use Rattle.spelling.specs.Tables.{compared_byte}
use Rattle.spelling.proofs.Seeing.{pairs_same, seen_length}
use Rattle.spelling.proofs.is_word.Goals as goal

pub returns-then-w-word : goal.returns-then-w-word
returns-then-w-word c =
    all_from_yields_List (λ p. eqb p.0 (compared_byte c.args.caseless p.1)) c.all.new.self _ _ c.all.ensures.ran
    (YieldsList-from_zip (YieldsList-from_slice c.args.w.now cc) (YieldsList-from_slice c.args.word.now cc)) (λ x b q k. search (rules, tests))
    ∙ pairs_same _ _ _ c.if-w-word.true

pub returns-else-w-word : goal.returns-else-w-word
returns-else-w-word c = ne_eqb _ _ c.if-w-word.false ∙ sym (same_lengths _ _ (λ e. c.if-w-word.false (e ∙ seen_length _ _)))
