-- `measure::additions::padding_in` meets its contract. Assumes nothing.
use native.Mathlib.Omega.{arith}
use mathlib.Core.Path.{◌≡◌, ◌∙◌}
use mathlib.Core.Bool.{Bool, true, false, cond}
use Prim.Native.Nat.{ℕ, ◌-◌}
use Rattle.colour.specs.Formatting.{counted}
use Rattle.measure.specs.Measures.{padding_in}
use Rattle.measure.proofs.additions.padding_in.Goals as goal

-- taking nothing off is straight mode
counted_less : (straight : Bool) (due n : ℕ) → due - cond straight 0 n ≡ counted straight due n
unfolding counted
counted_less true due n = omega arith
counted_less false due n = omega arith

pub returns : goal.returns
unfolding padding_in
returns c =
    let due = c.args.f.width - (c.args.x.count - c.args.x.scan.sequences) in
    let s = c.args.s.straight in
    let e : c.saturating_sub.result ≡ due - cond s 0 c.args.n = omega (arith, c.saturating_sub-seen.ensures, c.saturating_sub-due.ensures, c.against_padding.ensures, c.saturating_sub.ensures) in
    e ∙ counted_less s due c.args.n
