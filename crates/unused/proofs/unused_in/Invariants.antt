-- The segments of a template so far. Assumes nothing.
use Rattle.std.proofs.Common.{ℕ, ◌-◌, ◌≤◌, ◌≡◌, length}
use Rattle.words.specs.Trying.{repeated}
use Rattle.unused.specs.Looking.{place_told, look_top, tops_looked}
use Rattle.unused.proofs.unused_in.Given as goal

abbrev pub invariant-loop-i : goal.invariant-loop-i
invariant-loop-i l = (l.i ≤ length l.t) × ((n : ℕ) × (length l.t - l.i ≤ n) × (repeated (look_top l.t (length l.t)) n l.i (place_told l.unused) ≡ tops_looked l.t))

abbrev pub decreases-loop-i : goal.decreases-loop-i
decreases-loop-i l = length l.t - l.i
