-- `packing::pack` meets its contract. Assumes nothing.
use mathlib.Core.Path.{◌≡◌, sym, ap, subst, ◌∙◌}
use Prim.Native.Nat.{◌+◌, ◌*◌}
use native.Mathlib.Omega.{arith}
use Rattle.refusals.specs.Numbers.{number, value_with}
use Rattle.packing.specs.Packing.{Packable, packed_answer}
use Rattle.packing.proofs.pack.Goals as goal

pub overflow_mul-result : goal.overflow_mul-result
unfolding Packable
overflow_mul-result c =
    let h = subst Packable c.in-Ok.is c.requires in
    omega (arith, h)

pub returns-in-Ok : goal.returns-in-Ok
unfolding packed_answer
returns-in-Ok c = ap packed_answer (sym c.in-Ok.is)

pub overflow_mul-result-in-Err : goal.overflow_mul-result-in-Err
unfolding Packable
overflow_mul-result-in-Err c =
    let h = subst Packable c.in-Err.is c.requires in
    omega (arith, h, c.value_with.ensures)

pub overflow_add-result : goal.overflow_add-result
unfolding Packable
overflow_add-result c =
    let h = subst Packable c.in-Err.is c.requires in
    omega (arith, h, c.value_with.ensures, c.number_of.ensures, c.from.ensures)

pub returns-in-Err : goal.returns-in-Err
unfolding packed_answer
returns-in-Err c =
    let e : c.from.result + 256 * c.value_with.result ≡ number c.in-Err.r + 256 * value_with c.in-Err.r = omega (arith, c.value_with.ensures, c.number_of.ensures, c.from.ensures) in
    e ∙ ap packed_answer (sym c.in-Err.is)
