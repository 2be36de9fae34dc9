-- `scanning::skipping::scan_blocks` meets its contract. Assumes nothing.
use Rattle.std.proofs.Common.{length, length-append, ap, sym, ◌∙◌, arith}
use Rattle.std.specs.Slice.Iter.{chunks_rest}
use Rattle.colour.specs.declared.Scan.{Scan}
use Rattle.colour.specs.Machine.{scan}
use Rattle.colour.proofs.Scanning.{scan_append, sequences_small, resets_small}
use Rattle.scanning.proofs.skipping.scan_blocks.Goals as goal

pub loop-block-preserved : goal.loop-block-preserved
loop-block-preserved c =
    let u = c.loop-block.u in
    let x = c.in-Some.block.now in
    let rest = chunks_rest c.next.new.self in
    let e = c.in-Some.ensures.steps.1.0 in
    let r = c.scan_block-u.ensures in
    let n = ap length e ∙ length-append x rest in
    let size = c.in-Some.ensures.steps.0 ∙ c.loop-block.invariant.size in
    record {
      next = (omega (arith, size), tt);
      size = size;
      scanned = ap (λ (v : Scan). scan v rest) r ∙ sym (scan_append x rest u) ∙ ap (scan u) (sym e) ∙ c.loop-block.invariant.scanned;
      small = (
        omega (arith, ap (λ (v : Scan). v.held) r, ap (λ (v : Scan). v.sequences) r, sequences_small x u, n, c.loop-block.invariant.small.0),
        omega (arith, ap (λ (v : Scan). v.resets) r, resets_small x u, n, c.loop-block.invariant.small.1),
      );
    }
