-- `widths::table::run_text` meets its contract. The invariant: what the run over the rest gives from here is what it gives of the whole. Assumes nothing.
use native.Mathlib.Omega.{arith}
use mathlib.Core.Path.{◌≡◌, ap, sym, subst, ◌∙◌}
use Prim.Native.Nat.{◌+◌}
use lib.ListN.{drop, get_or}
use Rattle.widths.specs.declared.Wides.{Wides}
use Rattle.widths.specs.Widths.{advanced, ran}
use Rattle.widths.specs.Fitting.{Fits}
use Rattle.widths.proofs.Running.{ran_step, ran_end, one_a_byte, fits_advanced}
use Rattle.widths.proofs.table.run_text.Goals as goal

pub loop-b-preserved : goal.loop-b-preserved
loop-b-preserved c =
    let s = c.args.s.now in
    let i = c.loop-b.b-index in
    let v = c.loop-b.v in
    let l = c.loop-b.invariant in
    let e : c.advance-v.result ≡ advanced v (get_or s i 0) = c.advance-v.ensures in
    record {
      runs = ap (λ (x : Wides). ran x (drop (i + 1) s)) e ∙ sym (ran_step v s i c.loop-b-test.true) ∙ l.runs;
      fits = subst (λ (x : Wides). Fits x.pending) (sym e) (fits_advanced v (get_or s i 0) l.fits);
      few = omega (arith, ap (λ (x : Wides). x.wide) e, one_a_byte v (get_or s i 0), l.few);
    }

pub returns : goal.returns
returns c = sym (ran_end c.loop-b.v c.args.s.now c.loop-b.b-index c.loop-b-test.false) ∙ c.loop-b.invariant.runs
