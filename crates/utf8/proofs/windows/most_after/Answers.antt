-- `utf8::windows::most_after` meets its contract. Assumes nothing.
use mathlib.Core.Path.{◌≡◌, ap, ◌∙◌}
use Prim.Native.Nat.{ℕ, ◌≤◌, ◌-◌, ◌*◌}
use native.Mathlib.Omega.{arith}
use Rattle.utf8.specs.Windows.{alike}
use Rattle.utf8.proofs.windows.most_after.Goals as goal

-- what is taken off fits: neither number is large
first_fits : (c x : ℕ) → x ≡ 0x55 * alike c 0xED → x ≤ 0x55
first_fits c x e = omega arith

second_fits : (c y : ℕ) → y ≡ 0x65 * alike c 0xF4 → y ≤ 0x65
second_fits c y e = omega arith

pub overflow_sub-result : goal.overflow_sub-result
overflow_sub-result c = omega (arith, first_fits _ _ c.if_is.ensures)

pub overflow_sub-result-2 : goal.overflow_sub-result-2
overflow_sub-result-2 c = omega (arith, first_fits _ _ c.if_is.ensures, second_fits _ _ c.if_is-2.ensures)

pub returns : goal.returns
returns c =
    ap (λ (n : ℕ). 0xF4 - n - c.if_is-2.result) c.if_is.ensures
    ∙ ap (λ (n : ℕ). 0xF4 - 0x55 * alike c.args.c 0xED - n) c.if_is-2.ensures
