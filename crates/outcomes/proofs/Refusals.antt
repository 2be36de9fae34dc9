-- The lines of refusals: their parts, and that no number has more than two digits. Assumes nothing.
use mathlib.Core.Path.{◌≡◌, ap, sym}
use mathlib.Core.List.{◌++◌}
use Prim.Native.Nat.{ℕ, ◌≤◌}
use native.Mathlib.Omega.{arith}
use lib.ListN.{length}
use Rattle.buffer.specs.Bytes.{bytes}
use Rattle.refusals.specs.declared.Refusal.{Refusal}
use Rattle.refusals.specs.declared.Refusal.TheVariants.{TemplateTooLong, TemplateNotUtf8, Failure, NoMessage, TooManySegments, TooDeep, TooWide, TooManyF, HalfEscape, FieldTooLong, FieldNotUtf8, LineTooLong, NotARecord, NotASheet, Dropped}
use Rattle.refusals.specs.Numbers.{number}
use Rattle.fields.specs.Texts.{digits, decimal_text}
use Rattle.outcomes.specs.Program.{refusal_line}

-- its three parts as they are taken, in the number that the code has
pub refusal_parts : (r : Refusal) (n : ℕ) → n ≡ number r → refusal_line r ≡ bytes "! " ++ (decimal_text n ++ bytes "\n")
unfolding refusal_line
refusal_parts r n e = ap (λ k. bytes "! " ++ (decimal_text k ++ bytes "\n")) (sym e)

pub refusal_most : (r : Refusal) → length (refusal_line r) ≤ 5
unfolding refusal_line decimal_text digits
refusal_most TemplateTooLong = omega arith
refusal_most TemplateNotUtf8 = omega arith
refusal_most Failure = omega arith
refusal_most NoMessage = omega arith
refusal_most TooManySegments = omega arith
refusal_most TooDeep = omega arith
refusal_most TooWide = omega arith
refusal_most TooManyF = omega arith
refusal_most HalfEscape = omega arith
refusal_most FieldTooLong = omega arith
refusal_most FieldNotUtf8 = omega arith
refusal_most (LineTooLong n) = omega arith
refusal_most NotARecord = omega arith
refusal_most NotASheet = omega arith
refusal_most (Dropped p) = omega arith
