-- `widths::counting::gone_on` meets its contract. Assumes nothing.
use native.Mathlib.Omega.{arith}
use mathlib.Core.Path.{◌≡◌, refl, ap, sym, ◌∙◌}
use mathlib.Core.Bool.{Bool, true, false}
use Rattle.std.specs.Int.{from_bool}
use Prim.Native.Nat.{ℕ, ◌+◌, ◌-◌}
use Rattle.characters.specs.Characters.{one_if}
use Rattle.points.specs.Decoding.{with_six}
use Rattle.widths.specs.Widths.{is_wide, none_begun}
use Rattle.widths.proofs.Running.{gone_none, gone_last, gone_more, bits_few, bits_fewer, one_few}
use Rattle.widths.proofs.counting.gone_on.Goals as goal

-- what `usize::from` makes of a test
counted : (t : Bool) → from_bool t ≡ one_if t
counted true = refl
counted false = refl

pub returns-then-p-eq0 : goal.returns-then-p-eq0
returns-then-p-eq0 c = c.nothing_begun.ensures ∙ sym (gone_none _ _ _ _ c.if-p-eq0.true)

pub with_six-x-requires : goal.with_six-x-requires
with_six-x-requires c = omega (arith, bits_few c.args.w.pending.awaited c.args.w.pending.bits c.requires.0, c.from.ensures)

pub overflow_add-w : goal.overflow_add-w
overflow_add-w c = omega (arith, c.requires.1, c.from-then-p-eq1.ensures ∙ counted c.is_wide.result, one_few c.is_wide.result)

pub returns-then-p-eq1 : goal.returns-then-p-eq1
returns-then-p-eq1 c =
    c.nothing_begun-then-p-eq1.ensures
    ∙ ap (λ (n : ℕ). none_begun (c.args.w.wide + n))
    (c.from-then-p-eq1.ensures ∙ counted c.is_wide.result ∙ ap one_if c.is_wide.ensures ∙ ap (λ (y : ℕ). one_if (is_wide y)) (c.with_six-x.ensures.0 ∙ ap (λ (m : ℕ). with_six m c.args.b) c.from.ensures))
    ∙ sym (gone_last _ _ _ _ c.if-p-eq1.true)

pub overflow_cast-result : goal.overflow_cast-result
overflow_cast-result c = omega (arith, bits_fewer c.args.w.pending.awaited c.args.w.pending.bits c.requires.0 c.if-p-eq0.false c.if-p-eq1.false, c.with_six-x.ensures.1, c.from.ensures)

pub returns : goal.returns
returns c =
    ap (λ (y : ℕ). record { pending = record { awaited = c.args.w.pending.awaited - 1; bits = y }; wide = c.args.w.wide }) (c.with_six-x.ensures.0 ∙ ap (λ (m : ℕ). with_six m c.args.b) c.from.ensures)
    ∙ sym (gone_more _ _ _ _ c.if-p-eq0.false c.if-p-eq1.false)
