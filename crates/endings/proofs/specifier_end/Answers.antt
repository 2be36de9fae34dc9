-- `endings::specifier_end` meets its contract. Assumes nothing.
use mathlib.Core.Path.{sym, ap, ◌∙◌}
use Rattle.words.proofs.Answers.{told_fit, told_misfit, told_refused}
use Rattle.endings.proofs.Ended.{named_of, word_named}
use Rattle.endings.proofs.specifier_end.Goals as goal

pub returns-in_default-clause-value : goal.returns-in_default-clause-value
returns-in_default-clause-value c = sym (ap named_of (told_misfit _ _ _ c.parse_word.ensures.result_value (cc))) ∙ word_named _ _ _ _ c.no_parts.ensures

pub returns-in_default-2-clause-value : goal.returns-in_default-2-clause-value
returns-in_default-2-clause-value c = sym (ap named_of (told_refused _ _ _ c.parse_word.ensures.result_value _ c.in_default.is)) ∙ word_named _ _ _ _ c.no_parts.ensures

pub returns-clause-value : goal.returns-clause-value
returns-clause-value c =
    c.named_end.ensures
    ∙ sym (ap named_of (told_fit _ _ _ c.parse_word.ensures.result_value (c.in-Ok-Some.j, c.in-Ok-Some.p) (cc)))
    ∙ word_named _ _ _ _ c.no_parts.ensures
