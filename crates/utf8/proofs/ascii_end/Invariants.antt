-- `utf8::ascii_end` meets its contract. The loop's invariant: whole characters up to i. Assumes nothing.
use mathlib.Core.Path.{◌≡◌}
use mathlib.Core.List.{[]}
use Prim.Native.Nat.{◌≤◌}
use lib.ListN.{length, drop}
use Rattle.std.specs.Slice.Iter.{chunks_exact_rest, chunks_exact_size}
use Rattle.utf8.specs.Utf8.{awaited}
use Rattle.utf8.specs.Windows.{reached}
use Rattle.utf8.proofs.ascii_end.Given as goal

abbrev pub invariant-loop-stride : goal.invariant-loop-stride
invariant-loop-stride l = record {
  size : chunks_exact_size l.stride-iterator ≡ 128;
  rest : chunks_exact_rest l.stride-iterator ≡ drop l.i l.s;
  within : l.i ≤ length l.s;
  ascii : reached l.s l.i ≡ awaited [];
}
