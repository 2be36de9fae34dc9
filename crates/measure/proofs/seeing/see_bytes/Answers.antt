-- `measure::seeing::see_bytes` meets its contract. The invariant: what is seen of the rest from here is what is seen of the whole. Assumes nothing.
use borrow.Author.Rules.{rules}
use native.Mathlib.Omega.{arith}
use mathlib.Core.Path.{◌≡◌, refl, ap, sym, subst, ◌∙◌}
use Prim.Native.Nat.{◌+◌}
use lib.ListN.{drop, get_or}
use Rattle.widths.specs.declared.Wides.{Wides}
use Rattle.widths.specs.Fitting.{Fits}
use Rattle.colour.specs.declared.Scan.{Scan}
use Rattle.colour.specs.Machine.{act_of, moved}
use Rattle.colour.specs.Seeing.{looked_at, seen_after}
use Rattle.colour.proofs.Scanning.{sequences_grow, resets_grow}
use Rattle.colour.proofs.Seeing.{seen_step, seen_end, fits_looked, looked_few}
use Rattle.measure.proofs.seeing.see_bytes.Goals as goal

pub loop-b-init : goal.loop-b-init
loop-b-init c = (omega arith, (refl, ((c.requires.fits.0, omega arith), (omega arith, omega arith))))

pub look-v-requires : goal.look-v-requires
look-v-requires c = (c.loop-b.invariant.1.1.0.0, omega (arith, c.requires.fits.1, c.loop-b.invariant.1.1.0.1, c.loop-b-test.true))

pub loop-b-preserved : goal.loop-b-preserved
loop-b-preserved c =
    let s = c.args.s.now in
    let b = get_or s c.loop-b.b-index 0 in
    let a = act_of c.loop-b.u.state b in
    let e : c.step-u.result ≡ moved a c.loop-b.u = c.step-u.ensures in
    let f : c.look-v.result ≡ looked_at a c.loop-b.u.held c.loop-b.v b = c.look-v.ensures in
    let w : Wides = looked_at a c.loop-b.u.held c.loop-b.v b in (
      search rules,
      (
        (λ k. seen_after (e k) (f k) (drop (c.loop-b.b-index + 1) s)) ∙ sym (seen_step c.loop-b.u c.loop-b.v s c.loop-b.b-index c.loop-b-test.true) ∙ c.loop-b.invariant.1.0,
        (
          (
            subst (λ (x : Wides). Fits x.pending) (sym f) (fits_looked a c.loop-b.u.held c.loop-b.v b c.loop-b.invariant.1.1.0.0),
            omega (arith, ap (λ (x : Wides). x.wide) f, looked_few a c.loop-b.u.held c.loop-b.v b, c.loop-b.invariant.1.1.0.1),
          ),
          (
            omega (arith, ap (λ (x : Scan). x.held) e, ap (λ (x : Scan). x.sequences) e, sequences_grow a c.loop-b.u, c.loop-b.invariant.1.1.1.0),
            omega (arith, ap (λ (x : Scan). x.resets) e, resets_grow a c.loop-b.u, c.loop-b.invariant.1.1.1.1),
          ),
        ),
      ),
    )

pub returns : goal.returns
returns c = sym (seen_end c.loop-b.u c.loop-b.v c.args.s.now c.loop-b.b-index c.loop-b-test.false) ∙ c.loop-b.invariant.1.0
