-- `utf8::whole::goes_second` meets its contract. Assumes nothing.
use mathlib.Core.Path.{sym, ◌∙◌, subst}
use Prim.Native.Nat.{ℕ, ◌<◌, ◌≤◌}
use borrow.Author.Tests.{ne_eqb, leb-true, leb-false}
use Rattle.utf8.proofs.Judging.{going}
use Rattle.utf8.proofs.Wholes.{second_none, second_lives, second_below, second_above, none_or_one, not_so}
use Rattle.utf8.proofs.whole.goes_second.Goals as goal
use Rattle.utf8.proofs.whole.goes_second.Goals.{then-goes_on-eq1, else-goes_on-eq1}

pub returns-then-least_after-b : goal.returns-then-least_after-b
returns-then-least_after-b c =
    let a = c.args.a in
    let b = c.args.b in
    let r = c.requires in
    let t = c.if-least_after-b.true in
    elim c.if-goes_on-eq1.branch [
      | then-goes_on-eq1 w ↦
          let g = going b (sym c.goes_on.ensures ∙ w.if-goes_on-eq1.true) in
          let l = subst (λ (n : ℕ). n ≤ b) w.least_after.ensures (leb-true w.least_after.result b (sym w.value-is ∙ t)) in (
            λ u. second_lives a b r.0 r.1 g.0 g.1 l (subst (λ (n : ℕ). b ≤ n) c.most_after.ensures (leb-true b c.most_after.result u)),
            λ u. second_above a b r.0 r.1 (subst (λ (n : ℕ). n < b) c.most_after.ensures (leb-false b c.most_after.result u)),
          )
      | else-goes_on-eq1 w ↦ absurd (not_so (sym (w.value-is ∙ ne_eqb c.goes_on.result 1 w.if-goes_on-eq1.false) ∙ t))
    ]

pub returns-else-least_after-b : goal.returns-else-least_after-b
returns-else-least_after-b c =
    let a = c.args.a in
    let b = c.args.b in
    let r = c.requires in
    let t = c.if-least_after-b.false in (
      λ u. absurd (not_so (sym t ∙ u)),
      λ _. elim c.if-goes_on-eq1.branch [
        | then-goes_on-eq1 w ↦
            let g = going b (sym c.goes_on.ensures ∙ w.if-goes_on-eq1.true) in
            second_below a b r.0 r.1 g.0 (subst (λ (n : ℕ). b < n) w.least_after.ensures (leb-false w.least_after.result b (sym w.value-is ∙ t)))
        | else-goes_on-eq1 w ↦ second_none a b r.0 r.1 (none_or_one b c.goes_on.result c.goes_on.ensures w.if-goes_on-eq1.false)
      ],
    )
