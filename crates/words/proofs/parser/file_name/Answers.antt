-- `file_name` meets its contract. Assumes nothing.
use native.Mathlib.Omega.{arith}
use mathlib.Core.Path.{◌≡◌, sym, ap, ◌∙◌}
use lib.ListN.{length}
use Rattle.buffer.specs.Bytes.{part}
use Rattle.buffer.proofs.Parts.{part_length}
use Rattle.words.specs.Within.{told}
use Rattle.words.specs.declared.LogMetadata.TheVariants.{FileName}
use Rattle.words.specs.Trying.{fit}
use Rattle.words.proofs.Naming.{no_name, other_name, file_name_lem, too_many_f, sensed_fit, sensed_misfit, sensed_refused}
use Rattle.words.proofs.parser.file_name.Goals as goal
use Rattle.words.proofs.parser.file_name.Goals.{then-to-from-via-then-to-from, then-to-from-via-else-to-from+then-not-is_repeated_f}

pub returns-then-to-from-clause-result_value : goal.returns-then-to-from-clause-result_value
unfolding told
returns-then-to-from-clause-result_value c =
    let a = c.args in
    let l = part_length a.t.now a.from a.to (omega arith) (omega arith) in
    elim c.then-to-from.branch [
      | then-to-from-via-then-to-from w ↦ sym (no_name a.to a.t.now a.from a.to w.if-to-from.true)
      | then-to-from-via-else-to-from+then-not-is_repeated_f w ↦
          sym (sensed_misfit _ _ (other_name (part a.from a.to a.t.now) (λ q. c.requires.2 (sym l ∙ q)) (sym w.is_repeated_f.ensures ∙ w.if-not-is_repeated_f.true)))
    ]

pub returns-in_default-clause-result_value : goal.returns-in_default-clause-result_value
unfolding told
returns-in_default-clause-result_value c =
    let a = c.args in
    let h = c.in_default.ensures in
    let l = part_length a.t.now a.from a.to (omega arith) (omega arith) in
    sym (sensed_refused _ _ _ (too_many_f (part a.from a.to a.t.now) (λ q. c.requires.2 (sym l ∙ q)) (sym c.is_repeated_f.ensures ∙ c.if-not-is_repeated_f.false) (omega arith)))

pub returns-clause-result_value : goal.returns-clause-result_value
unfolding told
returns-clause-result_value c =
    let a = c.args in
    let h = c.in-Ok.ensures in
    let l = part_length a.t.now a.from a.to (omega arith) (omega arith) in
    let k : c.in-Ok.n ≡ length (part a.from a.to a.t.now) = omega arith in
    ap (λ n. fit (FileName n) a.to) k ∙ sym (sensed_fit _ _ _ (file_name_lem (part a.from a.to a.t.now) (λ q. c.requires.2 (sym l ∙ q))
    (sym c.is_repeated_f.ensures ∙ c.if-not-is_repeated_f.false) (omega arith) (omega arith)))
