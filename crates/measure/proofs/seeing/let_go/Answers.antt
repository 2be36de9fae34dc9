-- `measure::seeing::let_go` meets its contract. Assumes nothing.
use Prim.Native.Nat.{ℕ}
use mathlib.Core.Path.{ap, ◌∙◌}
use Rattle.measure.proofs.Shut.{let_go_none, let_go_some}
use Rattle.measure.proofs.seeing.let_go.Goals as goal

pub returns-then-held-eq0 : goal.returns-then-held-eq0
returns-then-held-eq0 c = let_go_none _ _ c.if-held-eq0.true

pub returns : goal.returns
returns c =
    let wide = c.args.w.wide in
    ap (λ (n : ℕ). record { pending = record { awaited = n; bits = c.default.result.bits }; wide = wide }) c.default.ensures.0
    ∙ ap (λ (n : ℕ). record { pending = record { awaited = 0; bits = n }; wide = wide }) c.default.ensures.1
    ∙ let_go_some _ c.args.w c.if-held-eq0.false
