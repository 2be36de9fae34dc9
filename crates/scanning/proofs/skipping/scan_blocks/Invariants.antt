-- `scanning::skipping::scan_blocks` meets its contract. The invariant: the search of the rest is the search of the whole. Assumes nothing.
use Rattle.std.proofs.Common.{◌≡◌, ◌+◌, ◌<◌, ◌^◌, length}
use Rattle.std.specs.Slice.Iter.{chunks_rest, chunks_size}
use Rattle.colour.specs.Machine.{scan}
use Rattle.scanning.proofs.skipping.scan_blocks.Given as goal

abbrev pub invariant-loop-block : goal.invariant-loop-block
invariant-loop-block l = record {
  next : (goal.iterator-loop-block).can_next l.block-iterator × (goal.iterator-loop-block).is_finite l.block-iterator;
  size : chunks_size l.block-iterator ≡ 128;
  scanned : scan l.u (chunks_rest l.block-iterator) ≡ scan l.initial.u l.s;
  small : (l.u.sequences + l.u.held + length (chunks_rest l.block-iterator) < 2 ^ 60) × (l.u.resets + length (chunks_rest l.block-iterator) < 2 ^ 60);
}
