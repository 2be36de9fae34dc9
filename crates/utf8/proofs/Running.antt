-- Laws of `run`, what a text leaves to come. Assumes nothing.
use mathlib.Core.Path.{◌≡◌, refl}
use mathlib.Core.List.{List, [], ◌∷◌, ◌++◌}
use Prim.Native.Nat.{ℕ, ◌≤◌}
use Rattle.utf8.specs.Utf8.{Awaited, awaited, broken, step, run}
use Rattle.utf8.proofs.Leading.{leads_ascii}

-- a text goes on where the text before it ended
pub run_append : (a : Awaited) (s t : List ℕ) → run a (s ++ t) ≡ run (run a s) t
run_append a [] t = refl
run_append a (b ∷ s) t = run_append (step a b) s t

-- a broken text stays broken
pub step_broken : (d : ℕ) → step broken d ≡ broken
unfolding step
step_broken d = refl

pub run_broken : (s : List ℕ) → run broken s ≡ broken
unfolding step
run_broken [] = refl
run_broken (b ∷ s) = run_broken s

-- a character of one byte leaves nothing to come
pub step_ascii : (b : ℕ) → b ≤ 0x7F → step (awaited []) b ≡ awaited []
unfolding step
step_ascii b h = leads_ascii b h
