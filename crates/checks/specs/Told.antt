-- Scaffolding, for proofs alone: what the code's answer about a record says. Assumes nothing.
use Rattle.std.specs.Prelude.{Result, Ok, Err, ⊤}
use Rattle.buffer.specs.Table.{Maybe, none, some}
use Rattle.refusals.specs.declared.Refusal.{Refusal}

unfoldable pub tell_checked : Result ⊤ Refusal → Maybe Refusal
tell_checked (Ok done) = none
tell_checked (Err r) = some r
