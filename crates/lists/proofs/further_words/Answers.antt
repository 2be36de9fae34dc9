-- `further_words` meets its contract. Assumes nothing.
use Rattle.words.specs.Within.{told, Fitting}
use Rattle.building.proofs.Answers.{handed_on}
use Rattle.runs.proofs.Running.{stands_before}
use Rattle.words.proofs.Attempts.{further_item, further_ends, further_refused, further_none}
use native.Mathlib.Omega.{arith}
use mathlib.Core.Path.{sym}
use Rattle.lists.proofs.further_words.Goals as goal

pub parse_word-requires : goal.parse_word-requires
parse_word-requires c = let b = stands_before _ _ _ _ (sym c.loop-p-test.ensures) in (omega arith, omega arith, c.loop-p.invariant.1)

pub loop-p-preserved : goal.loop-p-preserved
unfolding told Fitting
loop-p-preserved c =
    let w = rw c.in-Some.is at c.in_ok-k.ensures.within in
    let r = rw c.in-Some.is at c.in_ok-k.ensures.result_value in
    (omega arith, w.1.1, λ n h. let v = c.loop-p.invariant.2 n h in further_item _ _ _ _ _ _ _ v.0 v.2 (sym c.loop-p-test.ensures) _ _ (sym r) (omega arith) v.1)

pub returns-in_err-k-clause-by_index : goal.returns-in_err-k-clause-by_index
unfolding told
returns-in_err-k-clause-by_index c = λ n h.
    let v = c.loop-p.invariant.2 n h in
    rw (handed_on _ _ c.from_residual.ensures.1) (further_refused _ _ _ _ _ _ _ v.0 v.2 (sym c.loop-p-test.ensures) _ (sym c.in_err-k.ensures.result_value) v.1)

pub returns-in_default-clause-by_index : goal.returns-in_default-clause-by_index
unfolding told
returns-in_default-clause-by_index c = λ n h.
    let v = c.loop-p.invariant.2 n h in
    further_ends _ _ _ _ _ _ _ v.0 v.2 (sym c.loop-p-test.ensures) (sym (rw c.in_default.is at c.in_ok-k.ensures.result_value))

pub returns-after-loop-p-clause-by_index : goal.returns-after-loop-p-clause-by_index
unfolding told
returns-after-loop-p-clause-by_index c = λ n h. let v = c.loop-p.invariant.2 n h in further_none _ _ _ _ _ _ _ v.0 v.2 (sym c.loop-p-test.ensures)
