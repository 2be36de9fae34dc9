-- `parse_metadata` meets its contract. Assumes nothing.
use native.Mathlib.Omega.{arith}
use mathlib.Core.Path.{sym, ap, ◌∙◌}
use Rattle.std.proofs.Common.{rules, Ok}
use Rattle.words.specs.Within.{told_read}
use Rattle.words.specs.Words.{specifier_of, specifier_at}
use Rattle.words.proofs.Answers.{placed}
use Rattle.words.proofs.Naming.{name_sensed, letter_alone, letter_told, letter_within}
use Rattle.words.proofs.parser.parse_metadata.Goals as goal

pub returns-then-j-from-eq1 : goal.returns-then-j-from-eq1
unfolding specifier_at
returns-then-j-from-eq1 c =
    let j = c.letters_end-j.result in
    let r = placed j c.letter_metadata.result c.map.result _ (λ a p h. search rules) c.map.ensures.cases in
    record {
      result_value = ap (λ o. told_read (Ok o)) r ∙ letter_told j _ _ c.letter_metadata.ensures.value ∙ sym (
          name_sensed specifier_of _ _ _ j c.letters_end-j.ensures.value ∙ letter_alone c.args.t.now c.args.from j c.if-j-from-eq1.true (omega arith));
      within = rw r (letter_within _ _ j _ c.letter_metadata.ensures.named (omega arith) (omega arith));
    }

pub returns-clause-result_value : goal.returns-clause-result_value
unfolding specifier_at
returns-clause-result_value c = c.file_name.ensures.result_value ∙ sym (name_sensed specifier_of _ _ _ _ c.letters_end-j.ensures.value)
