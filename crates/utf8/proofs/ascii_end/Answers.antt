-- `utf8::ascii_end` meets its contract. The loop's invariant: whole characters up to i. Assumes nothing.
use mathlib.Core.Path.{◌≡◌, ap, sym, ◌∙◌}
use Prim.Native.Nat.{ℕ, ◌+◌}
use native.Mathlib.Omega.{arith}
use lib.ListN.{length, drop, length-drop, length-append}
use Rattle.utf8.specs.Windows.{reached}
use Rattle.utf8.proofs.Reached.{ascii_over}
use Rattle.utf8.proofs.ascii_end.Goals as goal

pub loop-stride-preserved : goal.loop-stride-preserved
loop-stride-preserved c =
    let s = c.args.s.now in
    let i = c.loop-stride.i in
    let l = c.loop-stride.invariant in
    let t = c.in-Some.ensures.steps in
    let n : length c.in-Some.stride.now ≡ 128 = t.1.1 ∙ l.size in
    let e = sym l.rest ∙ t.1.0 in
    let w = ascii_over s i c.in-Some.stride.now _ e l.within l.ascii (omega (arith, c.greatest.ensures)) in
    record {
      size = t.0 ∙ l.size;
      rest = sym w.0 ∙ ap (λ (k : ℕ). drop (i + k) s) n;
      within = omega (arith, ap length e, length-drop i s, length-append {A = ℕ});
      ascii = ap (λ (k : ℕ). reached s (i + k)) (sym n) ∙ w.1;
    }
