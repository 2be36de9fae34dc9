-- Scaffolding, for proofs alone: what the code's answer about a whole template says, and what is kept besides it. Assumes nothing.
use Rattle.std.specs.Prelude.{Result, Ok, Err, ℕ, ◌≤◌, ◌≡◌, List}
use Rattle.segments.specs.declared.Cell.{Cell}
use Rattle.segments.specs.Sizes.{sizes, Lows}
use Rattle.segments.specs.Pool.{chain_at, Sound, Tidy}
use Rattle.unused.specs.Unused.{first_of, unused_in}
use Rattle.template.specs.declared.Edition.{Edition}
use Rattle.refusals.specs.declared.Refusal.{Refusal}
use Rattle.template.specs.Template.{Template, read, refusal, all_used}

-- the code's answer about a whole template: how many segments it has, the last of them the last of the top level, or a refusal
abbrev pub Parsed : Type 0
Parsed = Result ℕ Refusal

-- a whole template: the top level's last segment is the last of n
abbrev pub tell_parsed : Parsed → List Cell → Template
tell_parsed (Ok n) cells = read (chain_at cells n)
tell_parsed (Err r) cells = refusal r

-- what an edition makes of what the first reads: of the template's bytes as they are read, its letters marked
abbrev pub judged_by : Edition → List ℕ → Template → Template
judged_by Edition.First t x = x
judged_by Edition.Strict t x = all_used (first_of (unused_in t)) x

-- a whole template that was read: n segments, all of them of the top level or in its groups
pub record ReadKeeps (cells : List Cell) (n : ℕ) : Type 0 where
  pub few : n ≤ 64
  pub sound : Sound cells n
  pub counted : sizes (chain_at cells n) ≡ n
  pub low : Lows 8 (chain_at cells n)
  pub tidy : Tidy cells n

abbrev pub ParsedKeeps : List Cell → Parsed → Type 0
ParsedKeeps cells (Ok n) = ReadKeeps cells n
ParsedKeeps cells (Err r) = Unit {0}
