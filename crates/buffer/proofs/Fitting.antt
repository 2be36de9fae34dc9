-- Laws of `written`: callers cite these and never open it. Assumes nothing.
use mathlib.Core.Path.{◌≡◌}
use mathlib.Core.List.{List}
use Prim.Native.Nat.{ℕ, ◌≤◌, ◌<◌}
use lib.ListN.{length}
use borrow.Author.Tests.{le-leb, lt-leb}
use Rattle.buffer.specs.Buffer.{put_at, written}

pub written_fits : (d x : List ℕ) → length x ≤ length d → written d x ≡ put_at d 0 x
unfolding written
written_fits d x h = rw (le-leb (length x) (length d) h, written)

pub written_not : (d x : List ℕ) → length d < length x → written d x ≡ d
unfolding written
written_not d x h = rw (lt-leb (length x) (length d) h, written)
