-- `measure::framing::closed` meets its contract. Assumes nothing.
use native.Mathlib.Omega.{arith}
use mathlib.Core.Path.{◌≡◌, ap, sym, ◌∙◌, subst}
use lib.ListN.{length, replicate, length-replicate}
use Rattle.colour.specs.Formatting.{prefix_in, pad_byte, ending}
use Rattle.measure.specs.declared.Measure.{Measure}
use Rattle.measure.specs.Measures.{grown, more, Small}
use Rattle.measure.specs.Measured.{grown_append, small_grown, small_more}
use Rattle.measure.proofs.Framed.{grown_ending, no_ending}
use Rattle.measure.proofs.framing.closed.Goals as goal

pub pad-e-requires : goal.pad-e-requires
pad-e-requires c =
    let e = c.longer-d.ensures in
    (subst Small (sym e) (small_more c.args.c c.args.n c.requires.0), omega (arith, c.requires.1, ap (λ (y : Measure). y.len) e))

pub returns-then-prefix_len-eq0 : goal.returns-then-prefix_len-eq0
returns-then-prefix_len-eq0 c =
    let a = more c.args.c c.args.n in
    let s = c.args.s in
    let k = c.args.f.look in
    let z = pad_byte c.args.f.padding in
    let w = replicate c.args.r z in
    let e : c.pad-e.result ≡ grown a w = c.pad-e.ensures ∙ ap (λ (y : Measure). grown y w) c.longer-d.ensures in
    e ∙ ap (grown a) (no_ending s k c.prefix_len.result w c.if-prefix_len-eq0.true c.prefix_len.ensures.0)

pub sequence-requires : goal.sequence-requires
sequence-requires c =
    let a = more c.args.c c.args.n in
    let z = pad_byte c.args.f.padding in
    let w = replicate c.args.r z in
    let e : c.pad-e.result ≡ grown a w = c.pad-e.ensures ∙ ap (λ (y : Measure). grown y w) c.longer-d.ensures in
    let q : Small (grown a w) = small_grown a w (small_more c.args.c c.args.n c.requires.0) in
    let l : length w ≡ c.args.r = length-replicate c.args.r z in
    ((subst Small (sym e) q, omega (arith, c.requires.1, ap (λ (y : Measure). y.len) e, l)), omega arith)

pub returns : goal.returns
returns c =
    let a = more c.args.c c.args.n in
    let s = c.args.s in
    let k = c.args.f.look in
    let z = pad_byte c.args.f.padding in
    let w = replicate c.args.r z in
    let e : c.pad-e.result ≡ grown a w = c.pad-e.ensures ∙ ap (λ (y : Measure). grown y w) c.longer-d.ensures in
    let x = ending (prefix_in c.args.s.colour k) in
    grown_ending c.pad-e.result c.sequence.result s k c.prefix_len.result c.if-prefix_len-eq0.false c.prefix_len.ensures.0 c.sequence.ensures ∙ ap (λ (v : Measure). grown v x) e ∙ grown_append a w x
