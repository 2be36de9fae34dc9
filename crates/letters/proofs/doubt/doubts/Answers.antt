-- `letters::doubt::doubts` meets its contract. The loop's invariant: the bytes passed were looked at. Assumes nothing.
use Prim.Native.Nat.{ℕ, ◌+◌}
use mathlib.Core.Path.{◌≡◌, ◌∙◌, subst}
use native.Mathlib.Omega.{arith}
use Rattle.utf8.proofs.Greatest.{greater_of}
use Rattle.letters.specs.Doubting.{Looked}
use Rattle.letters.proofs.Doubting.{looked_none, looked_more}
use Rattle.letters.proofs.doubt.doubts.Goals as goal

pub loop-k-init : goal.loop-k-init
loop-k-init c =
    let z : c.args.from ≡ c.args.from + 0 = omega arith in
    subst (λ (k : ℕ). Looked c.args.t.now c.args.from k 0) z (looked_none _ _)

pub loop-k-preserved : goal.loop-k-preserved
loop-k-preserved c =
    let z : c.args.from + c.loop-k.k + 1 ≡ c.args.from + (c.loop-k.k + 1) = omega arith in
    subst (λ (k : ℕ). Looked c.args.t.now c.args.from k c.max-worst.result) z
    (looked_more c.args.t.now c.args.from (c.args.from + c.loop-k.k) _ _ _ (omega arith) c.loop-k.invariant c.doubt.ensures (c.max-worst.ensures ∙ greater_of _ _))

pub returns : goal.returns
returns c =
    let z : c.args.from + c.loop-k.k ≡ c.args.from + c.args.n = omega arith in
    subst (λ (k : ℕ). Looked c.args.t.now c.args.from k c.loop-k.worst) z c.loop-k.invariant
