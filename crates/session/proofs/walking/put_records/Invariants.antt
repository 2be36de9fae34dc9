-- `session::walking::put_records` meets its contract. The loop's invariant: the lines of the records that are left are still to be written. Assumes nothing.
use Rattle.std.proofs.Common.{◌≡◌, ◌+◌, length}
use Rattle.buffer.specs.Buffer.{put_at}
use Rattle.session.specs.Walking.{records_of, lines_by}
use Rattle.session.proofs.walking.put_records.Given as goal

abbrev pub invariant-loop-body : goal.invariant-loop-body
invariant-loop-body l = record {
  counted : l.at + length (lines_by l.reading l.body-iterator) ≡ length (lines_by l.reading (records_of l.sheet));
  written : put_at l.out l.at (lines_by l.reading l.body-iterator) ≡ put_at l.initial.out 0 (lines_by l.reading (records_of l.sheet));
  room : length l.out ≡ length l.initial.out;
}
