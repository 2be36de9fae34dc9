-- Each entry's own contract settles everything: any two results that meet it are equal, the number and what is left in the lent buffer.
-- A contract that says less than it does now is refused here. Assumes nothing.
use mathlib.Core.Path.{refl}
use Rattle.settled.specs.Settled.{Settled}
use Rattle.settled.proofs.Equal.{same, here, past}
use Rattle.pralakuon_c.proofs as entries

line_settled : Settled 3 entries.pralakuon_line.Kinds.ps entries.pralakuon_line.Kinds.r entries.pralakuon_line.Reads.Post
line_settled _ _ _ _ _ _ p q = (same p.returned q.returned, past (past (past (here (same p.buffer q.buffer)))))

session_settled : Settled 2 entries.pralakuon_session.Kinds.ps entries.pralakuon_session.Kinds.r entries.pralakuon_session.Reads.Post
session_settled _ _ _ _ _ _ p q = (same p.returned q.returned, past (here (same p.buffer q.buffer)))

check_settled : Settled 1 entries.pralakuon_check.Kinds.ps entries.pralakuon_check.Kinds.r entries.pralakuon_check.Reads.Post
check_settled _ _ _ _ _ _ p q = (same p q, refl)

timestamp_settled : Settled 1 entries.pralakuon_timestamp.Kinds.ps entries.pralakuon_timestamp.Kinds.r entries.pralakuon_timestamp.Reads.Post
timestamp_settled _ _ _ _ _ _ p q = (same p q, refl)

builtin_settled : Settled 1 entries.pralakuon_builtin.Kinds.ps entries.pralakuon_builtin.Kinds.r entries.pralakuon_builtin.Reads.Post
builtin_settled _ _ _ _ _ _ p q = (same p.returned q.returned, past (past (past (past (here (same p.buffer q.buffer))))))

visible_settled : Settled 2 entries.pralakuon_visible.Kinds.ps entries.pralakuon_visible.Kinds.r entries.pralakuon_visible.Reads.Post
visible_settled _ _ _ _ _ _ p q = (same p.returned q.returned, past (here (same p.buffer q.buffer)))

version_settled : Settled 0 entries.pralakuon_version.Kinds.ps entries.pralakuon_version.Kinds.r entries.pralakuon_version.Reads.Post
version_settled _ _ _ _ _ _ p q = (same p q, refl)
