-- Scaffolding, for proofs alone: when the search for colour sequences rests. Assumes nothing.
use Rattle.std.specs.Prelude.{ℕ, Bool, false, eqb}
use Rattle.colour.specs.declared.State.{State}
use Rattle.colour.specs.declared.State.TheVariants.{Outside, Escape, Bracket, LoneZero, Digits}

-- no sequence has begun, and no byte is held back
abbrev pub is_resting : State → ℕ → Bool
is_resting Outside held = eqb held 0
is_resting Escape held = false
is_resting Bracket held = false
is_resting LoneZero held = false
is_resting Digits held = false
