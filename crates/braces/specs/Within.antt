-- Scaffolding, for proofs alone: where a brace that closes does so. Assumes nothing.
use Rattle.std.specs.Prelude.{ℕ, ◌≤◌, ◌<◌, Some, None, Ok, Err}
use Rattle.braces.specs.Braces.{Closing}

-- a brace that closes does so before `to`
unfoldable pub ClosingWithin : ℕ → ℕ → Closing → Type 0
ClosingWithin from to (Ok (Some c)) = (from ≤ c) × (c < to)
ClosingWithin from to (Ok None) = Unit {0}
ClosingWithin from to (Err r) = Unit {0}
