-- `measure::framing::opened` meets its contract. Assumes nothing.
use native.Mathlib.Omega.{arith}
use mathlib.Core.Path.{◌≡◌, ap, sym, ◌∙◌, subst}
use mathlib.Core.List.{List, ◌++◌}
use Prim.Native.Nat.{ℕ}
use lib.ListN.{replicate}
use Rattle.colour.specs.Formatting.{prefix_in, pad_byte}
use Rattle.measure.specs.declared.Measure.{Measure}
use Rattle.measure.specs.Measures.{grown, Small}
use Rattle.measure.specs.Measured.{grown_append, small_grown}
use Rattle.measure.proofs.Framed.{grown_prefix, no_prefix}
use Rattle.measure.proofs.framing.opened.Goals as goal

pub returns-then-n-eq0 : goal.returns-then-n-eq0
returns-then-n-eq0 c =
    let a = c.args.a in
    let s = c.args.s in
    let k = c.args.f.look in
    let w = replicate c.args.l (pad_byte c.args.f.padding) in
    let x = prefix_in c.args.s.colour k in
    c.pad.ensures ∙ ap (λ (v : List ℕ). grown a (v ++ w)) (sym (no_prefix s k c.prefix_len-n.result c.if-n-eq0.true c.prefix_len-n.ensures.0))

pub pad-requires-2 : goal.pad-requires-2
pad-requires-2 c =
    let a = c.args.a in
    let s = c.args.s in
    let k = c.args.f.look in
    let w = replicate c.args.l (pad_byte c.args.f.padding) in
    let x = prefix_in c.args.s.colour k in
    let e : c.sequence-b.result ≡ grown a x = grown_prefix a c.sequence-b.result s k c.prefix_len-n.result c.if-n-eq0.false c.prefix_len-n.ensures.0 c.sequence-b.ensures in
    (subst Small (sym e) (small_grown a x c.requires.0), omega (arith, c.requires.1, c.prefix_len-n.ensures.1, c.sequence-b.ensures.1))

pub returns : goal.returns
returns c =
    let a = c.args.a in
    let s = c.args.s in
    let k = c.args.f.look in
    let w = replicate c.args.l (pad_byte c.args.f.padding) in
    let x = prefix_in c.args.s.colour k in
    let e : c.sequence-b.result ≡ grown a x = grown_prefix a c.sequence-b.result s k c.prefix_len-n.result c.if-n-eq0.false c.prefix_len-n.ensures.0 c.sequence-b.ensures in
    c.pad-2.ensures ∙ ap (λ (v : Measure). grown v w) e ∙ grown_append a x w
