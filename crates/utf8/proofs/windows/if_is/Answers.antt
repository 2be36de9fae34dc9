-- `utf8::windows::if_is` meets its contract. Assumes nothing.
use mathlib.Core.Path.{◌≡◌, ap, sym, ◌∙◌}
use Prim.Native.Nat.{ℕ, ◌*◌}
use native.Mathlib.Nat.{mul-one, mul-zero}
use native.Mathlib.Omega.{arith}
use Rattle.utf8.specs.Windows.{alike}
use Rattle.utf8.proofs.windows.if_is.Goals as goal

pub returns-then-c-lead : goal.returns-then-c-lead
returns-then-c-lead c =
    let e : alike c.args.c c.args.lead ≡ 1 = omega arith in
    sym (ap (λ (n : ℕ). c.args.then * n) e ∙ mul-one c.args.then)

pub returns-else-c-lead : goal.returns-else-c-lead
returns-else-c-lead c =
    let e : alike c.args.c c.args.lead ≡ 0 = omega arith in
    sym (ap (λ (n : ℕ). c.args.then * n) e ∙ mul-zero c.args.then)
