-- `widths::counting::advance` meets its contract. Assumes nothing.
use native.Mathlib.Omega.{arith}
use mathlib.Core.Path.{◌≡◌, ap, sym, ◌∙◌}
use Prim.Native.Nat.{ℕ, ◌/◌, ◌<◌}
use native.Mathlib.Decide.{dec_lt}
use Rattle.widths.specs.declared.Pending.{Pending}
use Rattle.widths.proofs.Running.{advanced_trail, advanced_below, advanced_above}
use Rattle.widths.proofs.counting.advance.Goals as goal

pub returns-then-b-eq2 : goal.returns-then-b-eq2
returns-then-b-eq2 c = let t = c.if-b-eq2.true in c.gone_on.ensures ∙ sym (advanced_trail _ _ (omega (arith, t)) (omega (arith, t)))

pub returns : goal.returns
returns c =
    let w = c.args.w in
    let b = c.args.b in
    ap (λ (x : Pending). record { pending = x; wide = c.args.w.wide }) c.begun_by.ensures
    ∙ elim (dec_lt b 0x80) [
      | yes h ↦ sym (advanced_below w b h)
      | no g ↦ sym (advanced_above w b (above b g c.if-b-eq2.false))
    ]
  where
    above : (b : ℕ) → (b < 0x80 → ⊥) → (b / 0x40 ≡ 2 → ⊥) → 0xBF < b
    above b g n = elim (dec_lt 0xBF b) [ yes h ↦ h | no f ↦ absurd (n (omega (arith, g, f))) ]
