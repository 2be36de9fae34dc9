-- `scanning::skipping::scan_bytes` meets its contract. The invariant: the search of the rest from here is the search of the whole.
-- Assumes nothing.
use native.Mathlib.Omega.{arith}
use borrow.Author.Rules.{rules}
use mathlib.Core.Path.{◌≡◌, ap, sym, ◌∙◌}
use Prim.Native.Nat.{◌+◌}
use lib.ListN.{drop, get_or}
use Rattle.colour.specs.declared.Scan.{Scan}
use Rattle.colour.specs.Machine.{act_of, moved, scan}
use Rattle.colour.proofs.Scanning.{scan_step, scan_end, sequences_grow, resets_grow}
use Rattle.scanning.proofs.skipping.scan_bytes.Goals as goal

pub loop-b-preserved : goal.loop-b-preserved
loop-b-preserved c =
    let s = c.args.s.now in
    let a = act_of c.loop-b.u.state (get_or s c.loop-b.b-index 0) in
    let e : c.step-u.result ≡ moved a c.loop-b.u = c.step-u.ensures in (
      search rules,
      (
        ap (λ (v : Scan). scan v (drop (c.loop-b.b-index + 1) s)) e ∙ sym (scan_step c.loop-b.u s c.loop-b.b-index c.loop-b-test.true) ∙ c.loop-b.invariant.1.0,
        (
          omega (arith, ap (λ (v : Scan). v.held) e, ap (λ (v : Scan). v.sequences) e, sequences_grow a c.loop-b.u, c.loop-b.invariant.1.1.0),
          omega (arith, ap (λ (v : Scan). v.resets) e, resets_grow a c.loop-b.u, c.loop-b.invariant.1.1.1),
        ),
      ),
    )

pub returns : goal.returns
returns c = sym (scan_end c.loop-b.u c.args.s.now c.loop-b.b-index c.loop-b-test.false) ∙ c.loop-b.invariant.1.0
