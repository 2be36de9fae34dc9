-- `prefix::put_prefix` meets its contract. Assumes nothing.
use mathlib.Core.Path.{◌≡◌, ap, sym, ◌∙◌}
use mathlib.Core.List.{List, ◌++◌}
use Prim.Native.Nat.{ℕ, ◌+◌}
use native.Mathlib.Omega.{arith}
use lib.ListN.{length, take, drop, length-set}
use Rattle.colour.specs.Looks.{ink_codes}
use Rattle.prefix.specs.Opening.{between, codes_from, applied, styles_of}
use Rattle.prefix.proofs.Coding.{begun, applied_next, codes_prefix}
use Rattle.prefix.proofs.put_prefix.Goals as goal

pub loop-on-init : goal.loop-on-init
loop-on-init c = record { text = λ cs. begun c.args.into.now _ (omega arith); least = omega arith; most = omega arith }

pub with_style-n-requires : goal.with_style-n-requires
with_style-n-requires c = (c.loop-on.invariant.least, omega (arith, c.loop-on.auto.into, length-set c.args.into.now 0 27))

pub loop-on-preserved : goal.loop-on-preserved
loop-on-preserved c =
    let y = styles_of c.args.k.styles in
    let i = c.loop-on.on-index in
    record {
      text = λ cs.
          c.with_style-n.ensures.text (applied (drop (i + 1) y) cs)
          ∙ ap (λ (x : List (List ℕ)). take c.loop-on.n c.loop-on.into ++ codes_from (between c.loop-on.n) x) (applied_next y i _ cs c.loop-on-test.true)
          ∙ c.loop-on.invariant.text cs;
      least = omega (arith, c.with_style-n.ensures.least);
      most = omega (arith, c.with_style-n.ensures.most);
    }

pub with_ink-n-requires : goal.with_ink-n-requires
with_ink-n-requires c = omega (arith, c.loop-on.auto.into, length-set c.args.into.now 0 27)

pub ended-requires : goal.ended-requires
ended-requires c = (omega arith, omega (arith, c.with_ink-n.auto.into, c.loop-on.auto.into, length-set c.args.into.now 0 27))

pub returns : goal.returns
returns c =
    let k = c.args.k in
    let i : c.loop-on.on-index ≡ 5 = omega arith in
    let all = ap (λ (m : ℕ). take c.loop-on.n c.loop-on.into ++ codes_from (between c.loop-on.n) (applied (drop m (styles_of k.styles)) (ink_codes k.ink))) (sym i) in
    let e = codes_prefix k _ (c.with_ink-n.ensures.0 ∙ all ∙ c.loop-on.invariant.text (ink_codes k.ink)) in
    (c.ended.ensures.1 ∙ ap length e, (c.ended.ensures.0 ∙ e, c.ended.auto.into ∙ c.with_ink-n.auto.into ∙ c.loop-on.auto.into ∙ length-set c.args.into.now 0 27))
