-- The loop has written as many bytes as it has passed, as they are shown; the rest is shown behind the byte at hand. Assumes nothing.
use Rattle.std.proofs.Common.{◌≡◌, take, drop}
use Rattle.buffer.specs.Buffer.{put_at}
use Rattle.caret.specs.Caret.{harmless_behind}
use Rattle.caret.proofs.put_harmless.Given as goal

abbrev pub invariant-loop-i : goal.invariant-loop-i
invariant-loop-i l = (l.out ≡ put_at l.initial.out 0 (take l.i (harmless_behind 0 l.text))) × (drop l.i (harmless_behind 0 l.text) ≡ harmless_behind l.before (drop l.i l.text))
