-- `endings::inner_end` meets its contract. Assumes nothing.
use native.Mathlib.Omega.{arith}
use Rattle.words.proofs.Answers.{told_fit, told_misfit, told_refused, fitting}
use Rattle.endings.proofs.Ended.{inner_goes_on, inner_misfits, inner_refused}
use Rattle.endings.proofs.inner_end.Goals as goal

pub returns-in_default-clause-value : goal.returns-in_default-clause-value
returns-in_default-clause-value c = inner_misfits _ _ _ _ c.no_parts.ensures (told_misfit _ _ _ c.parse_word.ensures.result_value (cc))

pub returns-in_default-2-clause-value : goal.returns-in_default-2-clause-value
returns-in_default-2-clause-value c = inner_refused _ _ _ _ c.no_parts.ensures _ (told_refused _ _ _ c.parse_word.ensures.result_value _ c.in_default.is)

pub returns-clause-value : goal.returns-clause-value
returns-clause-value c =
    let w = fitting _ _ c.parse_word.ensures.within (c.in-Ok-Some.j, c.in-Ok-Some.p) (cc) in
    inner_goes_on _ _ _ _ c.no_parts.ensures _ _ (told_fit _ _ _ c.parse_word.ensures.result_value (c.in-Ok-Some.j, c.in-Ok-Some.p) (cc)) (omega (arith, w.0)) _ c.further_end.ensures.by_index
