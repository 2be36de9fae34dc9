-- `utf8::windows::flaws` meets its contract. The loop's invariant: the places passed are judged. Assumes nothing.
use mathlib.Core.Path.{◌≡◌, ◌∙◌, subst}
use Prim.Native.Nat.{ℕ, ◌+◌}
use native.Mathlib.Omega.{arith}
use Rattle.utf8.specs.Windows.{Checked}
use Rattle.utf8.proofs.Greatest.{greater_of}
use Rattle.utf8.proofs.Checking.{checked_none, checked_more}
use Rattle.utf8.proofs.windows.flaws.Goals as goal

pub loop-k-init : goal.loop-k-init
loop-k-init c =
    let e : c.args.from + 3 ≡ c.args.from + 0 + 3 = omega arith in
    subst (λ (j : ℕ). Checked c.args.s.now (c.args.from + 3) j 0) e (checked_none _ _)

pub loop-k-preserved : goal.loop-k-preserved
loop-k-preserved c =
    let k = c.args.from + c.loop-k.k in
    let e : k + 1 + 3 ≡ c.args.from + (c.loop-k.k + 1) + 3 = omega arith in
    subst (λ (j : ℕ). Checked c.args.s.now (c.args.from + 3) j c.max-worst.result) e
    (checked_more c.args.s.now (c.args.from + 3) k c.loop-k.worst c.flaw.result c.max-worst.result (omega arith) (c.max-worst.ensures ∙ greater_of _ _)
    c.flaw.ensures c.loop-k.invariant)

pub returns : goal.returns
returns c =
    let e : c.args.from + c.loop-k.k + 3 ≡ c.args.from + 3 + c.args.n = omega arith in
    subst (λ (j : ℕ). Checked c.args.s.now (c.args.from + 3) j c.loop-k.worst) e c.loop-k.invariant
