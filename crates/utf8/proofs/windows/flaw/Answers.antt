-- `utf8::windows::flaw` meets its contract. Assumes nothing.
use mathlib.Core.Path.{ap, ◌∙◌, subst}
use Prim.Native.Nat.{ℕ, ◌-◌}
use native.Mathlib.Omega.{arith}
use Rattle.utf8.specs.Utf8.{step}
use Rattle.utf8.specs.Windows.{Judged, alike, less, due_after}
use Rattle.utf8.proofs.Judging.{judged, small_alike, small_differ, small_less, sums}
use Rattle.utf8.proofs.windows.flaw.Goals as goal

pub overflow_add-result : goal.overflow_add-result
overflow_add-result c = omega (arith, small_differ _ _ _ c.differ.ensures, small_alike _ _ _ c.overlong.ensures)

pub overflow_add-result-2 : goal.overflow_add-result-2
overflow_add-result-2 c =
    omega
    (arith, small_differ _ _ _ c.differ.ensures, small_alike _ _ _ c.overlong.ensures, small_less _ _ _ c.below.ensures)

pub overflow_add-result-3 : goal.overflow_add-result-3
overflow_add-result-3 c =
    omega (
      arith,
      small_differ _ _ _ c.differ.ensures,
      small_alike _ _ _ c.overlong.ensures,
      small_less _ _ _ c.below.ensures,
      small_less _ _ _ c.below-2.ensures,
    )

pub returns : goal.returns
returns c x t =
    subst (λ (n : ℕ). Judged n (step x c.args.d))
    (sums _ _ _ _ _ _ _ _
    (c.differ.ensures
    ∙ ap (λ (n : ℕ). 1 - alike n c.goes_on.result) c.due.ensures
    ∙ ap (λ (n : ℕ). 1 - alike (due_after c.args.a c.args.b c.args.c) n) c.goes_on.ensures)
    c.overlong.ensures
    (c.below.ensures ∙ ap (less c.args.d) c.least_after.ensures)
    (c.below-2.ensures ∙ ap (λ (n : ℕ). less n c.args.d) c.most_after.ensures))
    (judged c.args.a c.args.b c.args.c c.args.d x t)
