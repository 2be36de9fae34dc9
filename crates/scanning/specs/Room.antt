-- Scaffolding, for proofs alone: how much may still be searched. Assumes nothing.
use Rattle.std.specs.Prelude.{ℕ, ◌+◌, ◌<◌, ◌^◌}
use Rattle.colour.specs.declared.Scan.{Scan}

-- the numbers of the search t stay small with n bytes more
abbrev pub Searchable : Scan → ℕ → Type 0
Searchable t n = (t.sequences + t.held + n < 2 ^ 60) × (t.resets + n < 2 ^ 60)
