-- `letters::doubt::is_clear` meets its contract. The loop's invariant: no byte passed leaves a doubt. Assumes nothing.
use borrow.Author.Rules.{rules}
use mathlib.Core.Path.{◌≡◌, sym, subst}
use native.Mathlib.Omega.{arith}
use Rattle.utf8.proofs.Wholes.{not_so}
use Rattle.letters.specs.Doubting.{Clear}
use Rattle.letters.proofs.Doubting.{clear_on}
use Rattle.letters.proofs.doubt.is_clear.Goals as goal

pub loop-i-init : goal.loop-i-init
loop-i-init c = (search rules, λ k g h. absurd (let z : ⊥ = omega (arith, h) in z))

pub returns-then-doubts-gt0 : goal.returns-then-doubts-gt0
returns-then-doubts-gt0 c = ((λ e. absurd (not_so e)), λ _. c.doubts.ensures.1 c.if-doubts-gt0.true)

pub loop-i-preserved : goal.loop-i-preserved
loop-i-preserved c = (search rules, clear_on c.args.t.now c.loop-i.i _ _ (omega arith) c.loop-i.invariant.1 (c.doubts.ensures.0 (omega arith)))

pub returns : goal.returns
returns c =
    let z : c.loop-i.i ≡ c.args.last = omega arith in
    ((λ _. subst (Clear c.args.t.now 0) z c.loop-i.invariant.1), λ e. absurd (not_so (sym e)))
