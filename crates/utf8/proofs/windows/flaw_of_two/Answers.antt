-- `utf8::windows::flaw_of_two` meets its contract. Assumes nothing.
use mathlib.Core.Path.{ap, sym, ◌∙◌, subst}
use Prim.Native.Nat.{ℕ, ◌+◌, ◌-◌, ◌/◌}
use native.Mathlib.Omega.{arith}
use Rattle.utf8.specs.Utf8.{step}
use Rattle.utf8.specs.Windows.{Judged, alike, less}
use Rattle.utf8.proofs.Judging.{judged_of_two, small_alike, small_differ}
use Rattle.utf8.proofs.windows.flaw_of_two.Goals as goal

pub overflow_add-result : goal.overflow_add-result
overflow_add-result c = omega (arith, small_differ _ _ _ c.differ.ensures, small_alike _ _ _ c.overlong.ensures)

pub returns : goal.returns
returns c a b x f g h k t =
    subst (λ (n : ℕ). Judged n (step x c.args.d))
    (sym
    (ap (λ (n : ℕ). n + c.overlong.result)
    (c.differ.ensures
    ∙ ap (λ (n : ℕ). 1 - alike n c.goes_on.result) c.below.ensures
    ∙ ap (λ (n : ℕ). 1 - alike (less 0xBF c.args.c) n) c.goes_on.ensures)
    ∙ ap (λ (n : ℕ). (1 - alike (less 0xBF c.args.c) (alike (c.args.d / 0x40) 2)) + n) c.overlong.ensures))
    (judged_of_two a b c.args.c c.args.d x f g h k t)
