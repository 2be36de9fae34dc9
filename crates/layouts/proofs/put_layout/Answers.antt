-- `layouts::put_layout` meets its contract. The loop's invariant: what is written and what is left are the whole. Assumes nothing.
use Prim.Native.Nat.{◌+◌, ◌≤◌}
use mathlib.Core.Path.{refl, ap, ◌∙◌}
use native.Mathlib.Omega.{arith}
use lib.ListN.{length}
use Rattle.buffer.specs.Buffer.{put_at}
use Rattle.buffer.proofs.Writing.{put_length}
use Rattle.layouts.specs.Runs.{run_text, laid_text}
use Rattle.layouts.proofs.Runs.{run_fits, runs_laid}
use Rattle.layouts.proofs.Laying.{left_from, left_bytes, left_put, done_bytes, done_put}
use Rattle.layouts.proofs.put_layout.Goals as goal

pub loop-k-init : goal.loop-k-init
loop-k-init c = ((omega arith, (omega arith, refl)), (refl, refl))

pub put_run-b-requires : goal.put_run-b-requires
put_run-b-requires c =
    let s = c.args.s in
    let d = c.args.d.now in
    let from = c.args.from in
    let i = c.loop-k-test.true in
    let left = left_bytes s d from c.args.c c.loop-k.k c.run_at.result i c.run_at.ensures in
    let whole = ap length (runs_laid d from c.args.c c.requires.spans_within s) in
    let fits = run_fits d from c.args.c c.requires.spans_within c.loop-k.k c.run_at.result i c.run_at.ensures in
    record {
      run_fits = fits;
      r_in_bounds = (omega (arith, c.loop-k.invariant.0.1.1, c.loop-k.invariant.1.0, left, whole, c.requires.c_in_bounds.0), omega (arith, c.loop-k.invariant.0.1.0, c.loop-k.invariant.1.0, left, whole, c.requires.c_in_bounds.1));
    }

pub loop-k-preserved : goal.loop-k-preserved
loop-k-preserved c =
    let s = c.args.s in
    let d = c.args.d.now in
    let from = c.args.from in
    let i = c.loop-k-test.true in
    let o = c.put_run-b.new.out in
    let left = left_bytes s d from c.args.c c.loop-k.k c.run_at.result i c.run_at.ensures in
    let whole = ap length (runs_laid d from c.args.c c.requires.spans_within s) in
    let room : c.loop-k.b + length (left_from s d from c.args.c c.loop-k.k) ≤ length c.loop-k.out = omega (arith, c.loop-k.invariant.0.1.1, c.loop-k.invariant.1.0, whole, c.requires.c_in_bounds.0) in
    let kept = ap length c.put_run-b.ensures.1 ∙ put_length c.loop-k.out c.loop-k.b (run_text s d c.run_at.result) (omega (arith, left, room)) ∙ c.loop-k.invariant.0.1.1 in
    let put = left_put s d from c.args.c c.loop-k.k c.run_at.result i c.run_at.ensures c.loop-k.out o c.loop-k.b c.put_run-b.result c.put_run-b.ensures.1 c.put_run-b.ensures.0 room ∙ c.loop-k.invariant.1.1 in
    ((omega arith, (omega (arith, c.loop-k.invariant.0.1.0, c.put_run-b.ensures.0), kept)), (omega (arith, c.loop-k.invariant.1.0, left, c.put_run-b.ensures.0), put))

pub shape_of-out : goal.shape_of-out
shape_of-out c = c.loop-k.invariant.0.1.1

pub returns : goal.returns
returns c =
    let s = c.args.s in
    let d = c.args.d.now in
    let from = c.args.from in
    let o = c.args.out.now in
    let at = c.args.at in
    let e = runs_laid d from c.args.c c.requires.spans_within s in
    let done = done_bytes s d from c.args.c c.loop-k.k c.loop-k.invariant.0.0 c.loop-k-test.false in
    let put = done_put s d from c.args.c c.loop-k.k c.loop-k.invariant.0.0 c.loop-k-test.false (put_at o at (laid_text s d from c.args.c)) c.loop-k.out c.loop-k.b (c.loop-k.invariant.1.1 ∙ ap (put_at o at) e) in
    (omega (arith, c.loop-k.invariant.1.0, done, ap length e), put)
