-- The sum so far and the lengths that are left make up all lengths; it is less than 2^32 for each length added. Assumes nothing.
use Rattle.std.proofs.Common.{◌≡◌, ◌+◌, ◌-◌, ◌*◌, ◌≤◌}
use Rattle.sheet.specs.Sheets.{body_bytes}
use Rattle.sheet.proofs.bodies_end.Given as goal

abbrev pub invariant-loop-k : goal.invariant-loop-k
invariant-loop-k l = (l.end + body_bytes (l.n - l.k) l.d (2 + 4 * l.k) ≡ l.from + body_bytes l.n l.d 2) × (l.end ≤ 65536 + 4294967296 * l.k)
