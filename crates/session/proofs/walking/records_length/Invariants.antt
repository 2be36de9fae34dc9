-- `session::walking::records_length` meets its contract. The loop's invariant: the lines of the records that are left are still to be counted. Assumes nothing.
use Rattle.std.proofs.Common.{◌≡◌, ◌+◌, ◌*◌, ◌≤◌, length}
use Rattle.session.specs.Walking.{records_of, lines_by}
use Rattle.session.proofs.walking.records_length.Given as goal

abbrev pub invariant-loop-body : goal.invariant-loop-body
invariant-loop-body l = record {
  counted : l.sum + length (lines_by l.reading l.body-iterator) ≡ length (lines_by l.reading (records_of l.sheet));
  most : l.sum + 65537 * length l.body-iterator ≤ 65537 * 65535;
}
