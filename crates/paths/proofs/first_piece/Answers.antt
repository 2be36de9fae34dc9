-- `paths::first_piece` meets its contract. Assumes nothing.
use Rattle.std.proofs.Common.{rules, ℕ, List, ◌+◌, ◌∷◌, eqb, length, take, drop, sym, ap, ◌∙◌, arith, take_all}
use Rattle.std.proofs.lemmas.List.Sums.{position_or_len_is}
use Rattle.std.proofs.lemmas.List.{take_rest, drop_all}
use Rattle.paths.specs.Paths.{pieces, kept}
use Rattle.paths.proofs.Pieces.{first_kept}
use Rattle.paths.proofs.first_piece.Goals as goal

pub returns-in-Some-clause-kept : goal.returns-in-Some-clause-kept
returns-in-Some-clause-kept c =
    let t = c.args.t.now in
    let n = c.in-Some.n in
    let found = position_or_len_is (λ (b : ℕ). eqb b 0x2F) t n 0 (search rules) (search rules) (search rules) in
    first_kept t ∙ ap (λ (k : ℕ). kept (take k t ∷ pieces (drop (k + 1) t))) found ∙ ap (λ (l : List ℕ). kept (take n t ∷ pieces l)) (sym (take_rest t (n + 1)))

pub returns-in-None-clause-kept : goal.returns-in-None-clause-kept
returns-in-None-clause-kept c =
    let t = c.args.t.now in
    let n = length t in
    let none = position_or_len_is (λ (b : ℕ). eqb b 0x2F) t n 0 (omega arith) (search rules) (search rules) in
    first_kept t
    ∙ ap (λ (k : ℕ). kept (take k t ∷ pieces (drop (k + 1) t))) none
    ∙ (λ i. kept (take_all n t (omega arith) i ∷ pieces (drop_all (n + 1) t (omega arith) i)))
