-- The demand on the two editions holds of every template. Assumes nothing.
use Prim.Native.Nat.{ℕ, ◌≤◌}
use mathlib.Core.Path.{◌≡◌, refl, ap, subst, ◌∙◌}
use mathlib.Core.List.{List, []}
use mathlib.Core.Logic.{◌↔◌}
use native.Mathlib.Omega.{arith}
use Rattle.buffer.specs.Table.{Maybe, none, some}
use Rattle.letters.specs.Marked.{marked}
use Rattle.letters.proofs.Marks.{marked_length}
use Rattle.refusals.specs.declared.Refusal.{Refusal}
use Rattle.refusals.specs.Numbers.{number}
use Rattle.segments.specs.Segments.{LogSegments}
use Rattle.unused.specs.Unused.{AllLieIn, first_of, unused_in}
use Rattle.unused.proofs.Forgetting.{reading_unnoted}
use Rattle.unused.proofs.Inside.{all_inside}
use Rattle.template.specs.declared.Edition.{Edition}
use Rattle.template.specs.Template.{Template, read, refusal, read_template, all_used, read_by}
use Rattle.template.proofs.Refusing.{template_refuses, used_read}
use Rattle.demands.specs.Conditions.{OneAt, NoneBefore}
use Rattle.demands.specs.StrictDemand.{StrictDemand}
use Rattle.demands.proofs.Firsts.{nothing_unused, first_says, used_first, first_is}
use Rattle.demands.proofs.Templates.{refused_first}

-- what is refused with a place was read, and the place is the first
dropped_where : (u : Maybe ℕ) (x : Template) (p : ℕ) → ((r : Refusal) → x ≡ refusal r → number r ≤ 9) → all_used u x ≡ refusal (Refusal.Dropped p)
    → ((s : LogSegments) × (x ≡ read s)) × (u ≡ some p)
unfolding all_used
dropped_where none (read s) p h e = absurd (let z : ◌≡◌ {A = ℕ} 0 1 = cc in let y : ⊥ = omega arith in y)
dropped_where none (refusal r) p h e = let k : r ≡ Refusal.Dropped p = cc in let n : number r ≡ 17 = ap number k in absurd (omega (arith, n, h r refl))
dropped_where (some q) (read s) p h e = ((s, refl), ap some (let k : q ≡ p = cc in k))
dropped_where (some q) (refusal r) p h e = let k : r ≡ Refusal.Dropped p = cc in let n : number r ≡ 17 = ap number k in absurd (omega (arith, n, h r refl))

module _ (t : List ℕ) where
  exactly : (s : LogSegments) → (read_by Edition.Strict t ≡ read s) ↔ ((read_template t ≡ read s) × (unused_in (marked t) ≡ []))
  unfolding read_by all_used
  exactly s = (
    (λ e. let k = used_read (first_of (unused_in (marked t))) (read_template t) s e in (k.0, nothing_unused (unused_in (marked t)) k.1)),
    (λ w.
        ap (all_used (first_of (unused_in (marked t)))) w.0
        ∙ ap (λ (u : Maybe ℕ). all_used u (read s)) (used_first (unused_in (marked t)) w.1)),
  )

  placed : (p : ℕ) → (read_by Edition.Strict t ≡ refusal (Refusal.Dropped p))
      ↔ (((s : LogSegments) × (read_template t ≡ read s)) × (OneAt p (unused_in (marked t)) × NoneBefore p (unused_in (marked t))))
  unfolding read_by all_used
  placed p = (
    (λ e. let k = dropped_where (first_of (unused_in (marked t))) (read_template t) p (template_refuses t) e in (k.0, first_says (unused_in (marked t)) p k.1)),
    (λ w.
        ap (all_used (first_of (unused_in (marked t)))) w.0.1
        ∙ ap (λ (u : Maybe ℕ). all_used u (read w.0.0)) (first_is (unused_in (marked t)) p w.1)),
  )

  first : read_by Edition.First t ≡ read_template t
  unfolding read_by
  first = refl

  pub strict_demand : StrictDemand t
  strict_demand = record {
    exactly = exactly;
    first = first;
    first_never = λ p e. omega (arith, template_refuses t (Refusal.Dropped p) e);
    alike = refused_first Edition.Strict t;
    placed = placed;
    of_the_reading = reading_unnoted (marked t);
    in_the_template = subst (λ (n : ℕ). AllLieIn n (unused_in (marked t))) (marked_length t) (all_inside (marked t));
  }
