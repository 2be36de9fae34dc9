-- Scaffolding, for proofs alone: what the code's answers say of a line's length, and one number for an answer. Assumes nothing.
use Rattle.std.specs.Prelude.{ℕ, ◌+◌, ◌*◌, ◌<◌, ◌^◌, true, false, leb, Result, Ok, Err}
use Rattle.refusals.specs.declared.Refusal.{Refusal}
use Rattle.refusals.specs.Numbers.{number, value_with}

-- the answer for a line of n bytes
unfoldable pub answer_in : ℕ → ℕ → Result ℕ Refusal
answer_in room n = elim (leb n room) [ true ↦ Ok n | false ↦ Err (Refusal.LineTooLong n) ]

-- one number for an answer
unfoldable pub packed_answer : Result ℕ Refusal → ℕ
packed_answer (Ok n) = 256 * n
packed_answer (Err r) = number r + 256 * value_with r

-- a length that can be packed
unfoldable pub Packable : Result ℕ Refusal → Type 0
Packable (Ok n) = n < 2 ^ 56
Packable (Err r) = value_with r < 2 ^ 56
