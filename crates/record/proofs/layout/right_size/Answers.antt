-- `record::layout::right_size` meets its contract. Assumes nothing.
use mathlib.Core.Path.{◌≡◌, ap, sym, ◌∙◌}
use Prim.Native.Nat.{ℕ, ◌+◌}
use native.Mathlib.Omega.{arith}
use lib.Dec.{eqb}
use lib.ListN.{length}
use Rattle.record.proofs.Sizes.{too_short, long_enough}
use Rattle.record.specs.Layout.{serial_end}
use Rattle.record.proofs.layout.right_size.Goals as goal

pub returns-then-d-from : goal.returns-then-d-from
returns-then-d-from c = sym (too_short _ _ (omega arith))

pub returns : goal.returns
returns c =
    let form = c.args.form in
    let d = c.args.d.now in
    let e : c.texts_of-from.result + c.u16_at.result + c.u16_at-2.result + c.u16_at-3.result + c.u16_at-4.result + c.serial_length.result ≡ serial_end form d = omega arith in
    ap (λ (k : ℕ). eqb k (length d)) e ∙ sym (long_enough form d (omega arith))
