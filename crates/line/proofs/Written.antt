-- A line in a buffer that is too short for it, and in one that isn't. Assumes nothing.
use Prim.Native.Nat.{ℕ, ◌≤◌, ◌<◌}
use mathlib.Core.Path.{◌≡◌}
use mathlib.Core.List.{List}
use borrow.Author.Tests.{le-leb, lt-leb}
use lib.ListN.{length}
use Rattle.buffer.specs.Buffer.{put_at, written}

pub written_short : (d x : List ℕ) → length d < length x → written d x ≡ d
unfolding written
written_short d x h = rw (lt-leb (length x) (length d) h, written)

pub written_whole : (d x : List ℕ) → length x ≤ length d → written d x ≡ put_at d 0 x
unfolding written
written_whole d x h = rw (le-leb (length x) (length d) h, written)
