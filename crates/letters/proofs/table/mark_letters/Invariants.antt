-- `letters::table::mark_letters` meets its contract. The loop's invariant: i bytes are copied as they are seen, and the rest of the marked template is
-- the rest of the template as it is seen behind the character at hand. Assumes nothing.
use mathlib.Core.Path.{◌≡◌}
use lib.ListN.{drop, take}
use Rattle.buffer.specs.Buffer.{put_at}
use Rattle.letters.specs.Marked.{marked_on, marked}
use Rattle.letters.proofs.table.mark_letters.Given as goal

abbrev pub invariant-loop-i : goal.invariant-loop-i
invariant-loop-i l = (l.out ≡ put_at l.initial.out 0 (take l.i (marked l.t))) × (drop l.i (marked l.t) ≡ marked_on l.left l.letter (drop l.i l.t))
