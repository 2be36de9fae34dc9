-- Every contract of the functions below the entries settles its result and what is lent, each under the function's own name.
-- p and q say that two results meet it; `past` and `here` lead to the lent buffer among the parameters. Assumes nothing.
use mathlib.Core.Path.{refl}
use denote.RattleType.{RattleType}
use denote.Param.Laws.{Laws, IsCopy}
use mir.Syntax.{Dict}
use Rattle.measure.specs.declared.sink.Sink as sink
use Rattle.std.specs.declared.clone.Clone as clone
use Rattle.settled.specs.Settled.{Settled}
use Rattle.settled.proofs.Equal.{same, here, past}
use Rattle.packing.proofs as packing
use Rattle.answer.proofs as answer
use Rattle.checking.proofs as checking
use Rattle.builtin.proofs as builtin
use Rattle.visible.proofs as visible
use Rattle.sheet.proofs as sheet
use Rattle.outcomes.proofs as outcomes
use Rattle.session.proofs as session
use Rattle.caret.proofs as caret

-- ---- packing

answer_in_settled : Settled 0 packing.answer_in.Kinds.ps packing.answer_in.Kinds.r packing.answer_in.Reads.Post
answer_in_settled _ _ _ _ _ _ p q = (same p q, refl)

pack_settled : Settled 0 packing.pack.Kinds.ps packing.pack.Kinds.r packing.pack.Reads.Post
pack_settled _ _ _ _ _ _ p q = (same p q, refl)

-- ---- answer

record_line_settled : Settled 4 answer.Reading.record_line.Kinds.ps answer.Reading.record_line.Kinds.r answer.Reading.record_line.Reads.Post
record_line_settled _ _ _ _ _ _ p q = (same p.0 q.0, past (past (here (same p.1.0 q.1.0))))

new_settled : Settled 1 answer.Reading.new.Kinds.ps answer.Reading.new.Kinds.r answer.Reading.new.Reads.Post
new_settled _ _ _ _ _ _ p q = (same p q, refl)

measure_record_settled : Settled 3 answer.Reading.measure_record.Kinds.ps answer.Reading.measure_record.Kinds.r answer.Reading.measure_record.Reads.Post
measure_record_settled _ _ _ _ _ _ p q = (same p q, refl)

line_settled : Settled 3 answer.line.Kinds.ps answer.line.Kinds.r answer.line.Reads.Post
line_settled _ _ _ _ _ _ p q = (same p.0 q.0, past (past (past (here (same p.1.0 q.1.0)))))

-- ---- checking

check_template_settled : Settled 1 checking.check_template.Kinds.ps checking.check_template.Kinds.r checking.check_template.Reads.Post
check_template_settled _ _ _ _ _ _ p q = (same p q, refl)

names_timestamp_settled : Settled 1 checking.names_timestamp.Kinds.ps checking.names_timestamp.Kinds.r checking.names_timestamp.Reads.Post
names_timestamp_settled _ _ _ _ _ _ p q = (same p q, refl)

-- ---- builtin

put_chosen_settled : Settled 1 builtin.put_chosen.Kinds.ps builtin.put_chosen.Kinds.r builtin.put_chosen.Reads.Post
put_chosen_settled _ _ _ _ _ _ p q = (same p.0 q.0, past (past (past (past (here (same p.1 q.1))))))

-- ---- visible

visible_text_settled : Settled 2 visible.visible_text.Kinds.ps visible.visible_text.Kinds.r visible.visible_text.Reads.Post
visible_text_settled _ _ _ _ _ _ p q = (same p.0 q.0, past (here (same p.1.0 q.1.0)))

-- ---- sheet

is_sheet_settled : Settled 1 sheet.is_sheet.Kinds.ps sheet.is_sheet.Kinds.r sheet.is_sheet.Reads.Post
is_sheet_settled _ _ _ _ _ _ p q = (same p q, refl)

body_count_settled : Settled 1 sheet.body_count.Kinds.ps sheet.body_count.Kinds.r sheet.body_count.Reads.Post
body_count_settled _ _ _ _ _ _ p q = (same p.0 q.0, refl)

body_length_settled : Settled 1 sheet.body_length.Kinds.ps sheet.body_length.Kinds.r sheet.body_length.Reads.Post
body_length_settled _ _ _ _ _ _ p q = (same p.0 q.0, refl)

-- ---- outcomes

outcome_length_settled : Settled 3 outcomes.outcome_length.Kinds.ps outcomes.outcome_length.Kinds.r outcomes.outcome_length.Reads.Post
outcome_length_settled _ _ _ _ _ _ p q = (same p.0 q.0, refl)

put_outcome_settled : Settled 4 outcomes.put_outcome.Kinds.ps outcomes.put_outcome.Kinds.r outcomes.put_outcome.Reads.Post
put_outcome_settled _ _ _ _ _ _ p q = (same p.0 q.0, past (past (here (same p.1 q.1))))

-- T is the type of the sink, K says what it is after a text, and what the buffer is
module _ (T : RattleType) (L : Laws T) (C : IsCopy T) (K : sink.Ghosts T.Denot) (D : Dict) (E : clone.Ghosts T.Denot) (F : Dict) where
  write_refusal_settled : Settled 2 (outcomes.refusing.write_refusal.Kinds.ps T L C) (outcomes.refusing.write_refusal.Kinds.r T L C) (outcomes.refusing.write_refusal.Reads.Post T L C K D E F)
  write_refusal_settled _ _ _ _ _ _ p q = (same p.0 q.0, past (past (here (same p.1 q.1))))

-- ---- session

sheet_in_settled : Settled 1 session.sheet_in.Kinds.ps session.sheet_in.Kinds.r session.sheet_in.Reads.Post
sheet_in_settled _ _ _ _ _ _ p q = (same p q, refl)

template_at_settled : Settled 2 session.Sheet.template_at.Kinds.ps session.Sheet.template_at.Kinds.r session.Sheet.template_at.Reads.Post
template_at_settled _ _ _ _ _ _ p q = (same p.0 q.0, refl)

reading_settled : Settled 2 session.Sheet.reading.Kinds.ps session.Sheet.reading.Kinds.r session.Sheet.reading.Reads.Post
reading_settled _ _ _ _ _ _ p q = (same p q, refl)

records_settled : Settled 2 session.Sheet.records.Kinds.ps session.Sheet.records.Kinds.r session.Sheet.records.Reads.Post
records_settled _ _ _ _ _ _ p q = (same p.0 q.0, refl)

session_settled : Settled 2 session.session.Kinds.ps session.session.Kinds.r session.session.Reads.Post
session_settled _ _ _ _ _ _ p q = (same p.0 q.0, past (here (same p.1.0 q.1.0)))

-- ---- caret

put_line_settled : Settled 2 caret.put_line.Kinds.ps caret.put_line.Kinds.r caret.put_line.Reads.Post
put_line_settled _ _ _ _ _ _ p q = (same p.0.0 q.0.0, past (past (here (same p.0.1 q.0.1))))

put_caret_settled : Settled 2 caret.put_caret.Kinds.ps caret.put_caret.Kinds.r caret.put_caret.Reads.Post
put_caret_settled _ _ _ _ _ _ p q = (same p.0.0 q.0.0, past (past (here (same p.0.1 q.0.1))))
