-- `measure::padding::scan_padding` meets its contract. Assumes nothing.
use native.Mathlib.Omega.{arith}
use borrow.Author.Rules.{rules}
use mathlib.Core.Path.{◌≡◌, ap, sym, ◌∙◌}
use Prim.Native.Nat.{ℕ, ◌+◌, ◌-◌}
use native.Mathlib.Nat.{sub-zero}
use lib.ListN.{replicate}
use Rattle.colour.specs.declared.Scan.{Scan}
use Rattle.colour.specs.Formatting.{pad_byte}
use Rattle.colour.specs.Machine.{act_of, moved, scan}
use Rattle.colour.proofs.Scanning.{scan_free, sequences_grow, resets_grow}
use Rattle.colour.proofs.Shows.{free_pad}
use Rattle.scanning.proofs.Rests.{rests_outside}
use Rattle.scanning.proofs.Searched.{same_step, same_end}
use Rattle.measure.proofs.padding.scan_padding.Goals as goal

pub returns-then-rests : goal.returns-then-rests
returns-then-rests c =
    let z = c.args.z in
    let n = c.args.n in
    let h = rests_outside c.args.t.state c.args.t.held (sym c.rests.ensures ∙ c.if-rests.true) in
    sym (scan_free (replicate n (pad_byte z)) (free_pad z n) c.args.t h.0 h.1)

pub loop-init : goal.loop-init
loop-init c = (search rules, (ap (λ (k : ℕ). scan c.args.t (replicate k c.pad_byte-b.result)) (sub-zero c.args.n), search rules))

pub loop-preserved : goal.loop-preserved
loop-preserved c =
    let n = c.args.n in
    let b = c.pad_byte-b.result in
    let a = act_of c.loop.u.state b in
    let e : c.step-u.result ≡ moved a c.loop.u = c.step-u.ensures in (
      search rules,
      (
        ap (λ (v : Scan). scan v (replicate (n - (c.loop.counter + 1)) b)) e ∙ sym (same_step c.loop.u n c.loop.counter b c.loop-test.true) ∙ c.loop.invariant.1.0,
        (
          omega (arith, ap (λ (v : Scan). v.held) e, ap (λ (v : Scan). v.sequences) e, sequences_grow a c.loop.u, c.loop.invariant.1.1.0),
          omega (arith, ap (λ (v : Scan). v.resets) e, resets_grow a c.loop.u, c.loop.invariant.1.1.1),
        ),
      ),
    )

pub returns : goal.returns
returns c =
    let n = c.args.n in
    sym (same_end c.loop.u n c.loop.counter c.pad_byte-b.result c.loop-test.false) ∙ c.loop.invariant.1.0
    ∙ ap (λ (b : ℕ). scan c.args.t (replicate n b)) c.pad_byte-b.ensures
