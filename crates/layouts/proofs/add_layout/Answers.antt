-- `layouts::add_layout` meets its contract. The loop's invariant: what is measured and what is left are the whole. Assumes nothing.
use mathlib.Core.Path.{refl, sym, ap, ◌∙◌, subst}
use native.Mathlib.Omega.{arith}
use lib.ListN.{length}
use Rattle.measure.specs.declared.Measure.{Measure}
use Rattle.measure.specs.Measures.{grown, Small}
use Rattle.measure.specs.Measured.{small_grown}
use Rattle.layouts.specs.Runs.{run_text, laid_text}
use Rattle.layouts.proofs.Runs.{run_fits, runs_laid}
use Rattle.layouts.proofs.Laying.{left_bytes, left_grown, done_grown}
use Rattle.layouts.proofs.add_layout.Goals as goal

pub loop-k-init : goal.loop-k-init
loop-k-init c = (omega arith, (c.requires.small.0, refl))

pub add_run-b-requires : goal.add_run-b-requires
add_run-b-requires c =
    let s = c.args.s in
    let d = c.args.d.now in
    let from = c.args.from in
    let i = c.loop-k-test.true in
    let whole = ap (λ (k : Measure). k.len) c.loop-k.invariant.1.1 in
    let left = left_bytes s d from c.args.c c.loop-k.k c.run_at.result i c.run_at.ensures in
    let fits = run_fits d from c.args.c c.requires.spans_within c.loop-k.k c.run_at.result i c.run_at.ensures in
    record {
      run_fits = fits;
      small = (c.loop-k.invariant.1.0, omega (arith, whole, left, ap length (runs_laid d from c.args.c c.requires.spans_within s), c.requires.small.1));
    }

pub loop-k-preserved : goal.loop-k-preserved
loop-k-preserved c =
    let s = c.args.s in
    let d = c.args.d.now in
    let from = c.args.from in
    let i = c.loop-k-test.true in
    let e = c.add_run-b.ensures in
    let small = subst Small (sym e) (small_grown c.loop-k.b (run_text s d c.run_at.result) c.loop-k.invariant.1.0) in
    (omega arith, (small, left_grown s d from c.args.c c.loop-k.k c.run_at.result i c.run_at.ensures c.loop-k.b c.add_run-b.result e ∙ c.loop-k.invariant.1.1))

pub returns : goal.returns
returns c =
    let s = c.args.s in
    let d = c.args.d.now in
    let from = c.args.from in
    let a = c.args.a in
    let e = c.loop-k.invariant.1.1 ∙ ap (grown a) (runs_laid d from c.args.c c.requires.spans_within s) in
    done_grown s d from c.args.c c.loop-k.k c.loop-k.invariant.0 c.loop-k-test.false (grown a (laid_text s d from c.args.c)) c.loop-k.b e
