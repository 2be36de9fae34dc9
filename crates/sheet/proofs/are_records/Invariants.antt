-- The bodies that are left reach to the end of the sheet, and are records exactly when all are. Assumes nothing.
use Rattle.std.proofs.Common.{◌≡◌, ◌+◌, ◌-◌, ◌*◌}
use Rattle.sheet.specs.Sheets.{bodies_from, are_records}
use Rattle.sheet.proofs.Walk.{Left}
use Rattle.sheet.proofs.are_records.Given as goal

abbrev pub invariant-loop-k : goal.invariant-loop-k
invariant-loop-k l = Left (l.n - l.k) l.d (l.contents + 4 * l.k) l.j
    × (are_records l.form (bodies_from (l.n - l.k) l.d (l.contents + 4 * l.k) l.j) ≡ are_records l.form (bodies_from l.n l.d l.contents l.fn.from))
