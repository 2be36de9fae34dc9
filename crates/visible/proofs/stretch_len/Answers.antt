-- `visible::stretch_len` meets its contract. Assumes nothing.
use Rattle.std.proofs.Common.{◌≡◌, ◌<◌, rules, tests, drop, sym, subst}
use Rattle.std.proofs.lemmas.Iterator.{first_from_Range, serves_from_Range}
use Rattle.colour.specs.Sequences.{sequence_length}
use Rattle.visible.proofs.Stretches.{Stretch, rest_part, stretch_found}
use Rattle.visible.proofs.stretch_len.Goals as goal

pub find-requires : goal.find-requires
find-requires c = record { can = tt; finite = tt; callable = serves_from_Range (λ x q k. search (rules, tests)) (λ x low high. search rules) }

pub returns : goal.returns
returns c =
    let s = c.args.s.now in
    let f = first_from_Range _ _ _ _ (λ i. 0 < sequence_length (drop i s)) (λ i. sequence_length (drop i s) ≡ 0) c.find.ensures.ran (λ x q k. search (rules, tests, rest_part)) (λ x q k. search (rules, tests, rest_part)) in
    let t = subst (Stretch s) (sym c.unwrap_or.ensures) (stretch_found s c.find.result f) in
    record { s_value = t.value; within = t.within; before_sequence = t.before_sequence }
