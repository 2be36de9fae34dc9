-- What the loop of `further_words` keeps, and its measure. Assumes nothing.
use Rattle.words.specs.Trying.{further}
use Rattle.segments.specs.Sizes.{Narrow}
use Rattle.building.specs.Reading.{word_at}
use Prim.Native.Nat.{ℕ, ◌-◌, ◌≤◌}
use mathlib.Core.Path.{◌≡◌}
use Rattle.lists.proofs.further_words.Given as goal

abbrev pub invariant-loop-p : goal.invariant-loop-p
invariant-loop-p l = ((l.from ≤ l.j) × (l.j ≤ l.to)) × Narrow l.p.format.width × ((n : ℕ) → l.to - l.from ≤ n → (m : ℕ) × (l.to - l.j ≤ m) × (further 0x3A l.t l.to (word_at l.t l.to) m l.j l.p ≡ further 0x3A l.t l.to (word_at l.t l.to) n l.from l.initial.p))

abbrev pub decreases-loop-p : goal.decreases-loop-p
decreases-loop-p l = l.to - l.j
