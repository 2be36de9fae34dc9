-- Every contract of the functions that make lines settles its result and what is lent, each under the function's own name.
-- p and q say that two results meet it; `past` and `here` lead to the lent buffer among the parameters. Assumes nothing.
use mathlib.Core.Path.{refl}
use denote.RattleType.{RattleType}
use denote.Param.Laws.{Laws, IsCopy}
use mir.Syntax.{Dict}
use Rattle.measure.specs.declared.sink.Sink as sink
use Rattle.std.specs.declared.clone.Clone as clone
use Rattle.settled.specs.Settled.{Settled}
use Rattle.settled.proofs.Equal.{same, here, past}
use Rattle.contracts.proofs.Told.{told_checked}
use Rattle.settings.proofs as settings
use Rattle.record.proofs as records
use Rattle.checks.proofs as checks
use Rattle.formats.proofs as formats
use Rattle.paths.proofs as paths
use Rattle.prefix.proofs as prefix
use Rattle.scanning.proofs as scanning
use Rattle.measure.proofs as measure
use Rattle.comparisons.proofs as comparisons
use Rattle.dress.proofs as dress
use Rattle.decimal.proofs as decimal
use Rattle.file_name.proofs as file_name
use Rattle.wording.proofs as wording
use Rattle.layouts.proofs as layouts
use Rattle.leaves.proofs as leaves
use Rattle.members.proofs as members
use Rattle.rows.proofs as rows
use Rattle.line.proofs as line

-- ---- settings

settings_of_settled : Settled 0 settings.settings_of.Kinds.ps settings.settings_of.Kinds.r settings.settings_of.Reads.Post
settings_of_settled _ _ _ _ _ _ p q = (same p q, refl)

edition_of_settled : Settled 0 settings.edition_of.Kinds.ps settings.edition_of.Kinds.r settings.edition_of.Reads.Post
edition_of_settled _ _ _ _ _ _ p q = (same p q, refl)

form_of_settled : Settled 0 settings.form_of.Kinds.ps settings.form_of.Kinds.r settings.form_of.Reads.Post
form_of_settled _ _ _ _ _ _ p q = (same p q, refl)

is_known_settled : Settled 0 settings.is_known.Kinds.ps settings.is_known.Kinds.r settings.is_known.Reads.Post
is_known_settled _ _ _ _ _ _ p q = (same p q, refl)

-- ---- record

right_size_settled : Settled 1 records.layout.right_size.Kinds.ps records.layout.right_size.Kinds.r records.layout.right_size.Reads.Post
right_size_settled _ _ _ _ _ _ p q = (same p q, refl)

places_in_settled : Settled 1 records.layout.places_in.Kinds.ps records.layout.places_in.Kinds.r records.layout.places_in.Reads.Post
places_in_settled _ _ _ _ _ _ p q = (same p.0 q.0, refl)

level_of_settled : Settled 0 records.levels.level_of.Kinds.ps records.levels.level_of.Kinds.r records.levels.level_of.Reads.Post
level_of_settled _ _ _ _ _ _ p q = (same p q, refl)

source_of_settled : Settled 0 records.levels.source_of.Kinds.ps records.levels.source_of.Kinds.r records.levels.source_of.Reads.Post
source_of_settled _ _ _ _ _ _ p q = (same p q, refl)

marks_settled : Settled 0 records.marks.marks.Kinds.ps records.marks.marks.Kinds.r records.marks.marks.Reads.Post
marks_settled _ _ _ _ _ _ p q = (same p q, refl)

u16_at_settled : Settled 1 records.numbers.u16_at.Kinds.ps records.numbers.u16_at.Kinds.r records.numbers.u16_at.Reads.Post
u16_at_settled _ _ _ _ _ _ p q = (same p.0 q.0, refl)

u32_at_settled : Settled 1 records.numbers.u32_at.Kinds.ps records.numbers.u32_at.Kinds.r records.numbers.u32_at.Reads.Post
u32_at_settled _ _ _ _ _ _ p q = (same p.0 q.0, refl)

-- ---- checks

check_record_settled : Settled 1 checks.check_record.Kinds.ps checks.check_record.Kinds.r checks.check_record.Reads.Post
check_record_settled _ _ _ _ _ _ p q = (told_checked _ _ (same p q), refl)

-- ---- formats

specifier_format_settled : Settled 0 formats.specifier_format.Kinds.ps formats.specifier_format.Kinds.r formats.specifier_format.Reads.Post
specifier_format_settled _ _ _ _ _ _ p q = (same p q, refl)

group_format_settled : Settled 0 formats.group_format.Kinds.ps formats.group_format.Kinds.r formats.group_format.Reads.Post
group_format_settled _ _ _ _ _ _ p q = (same p q, refl)

-- ---- paths

components_of_settled : Settled 1 paths.components_of.Kinds.ps paths.components_of.Kinds.r paths.components_of.Reads.Post
components_of_settled _ _ _ _ _ _ p q = (same p q, refl)

-- ---- prefix

ends_len_settled : Settled 0 prefix.length.ends_len.Kinds.ps prefix.length.ends_len.Kinds.r prefix.length.ends_len.Reads.Post
ends_len_settled _ _ _ _ _ _ p q = (same p q, refl)

prefix_len_settled : Settled 0 prefix.length.prefix_len.Kinds.ps prefix.length.prefix_len.Kinds.r prefix.length.prefix_len.Reads.Post
prefix_len_settled _ _ _ _ _ _ p q = (same p.0 q.0, refl)

-- ---- scanning

act_of_settled : Settled 0 scanning.act_of.Kinds.ps scanning.act_of.Kinds.r scanning.act_of.Reads.Post
act_of_settled _ _ _ _ _ _ p q = (same p q, refl)

in_sequence_settled : Settled 0 scanning.in_sequence.Kinds.ps scanning.in_sequence.Kinds.r scanning.in_sequence.Reads.Post
in_sequence_settled _ _ _ _ _ _ p q = (same p q, refl)

step_settled : Settled 0 scanning.step.Kinds.ps scanning.step.Kinds.r scanning.step.Reads.Post
step_settled _ _ _ _ _ _ p q = (same p q, refl)

scan_text_settled : Settled 1 scanning.skipping.scan_text.Kinds.ps scanning.skipping.scan_text.Kinds.r scanning.skipping.scan_text.Reads.Post
scan_text_settled _ _ _ _ _ _ p q = (same p q, refl)

rests_settled : Settled 0 scanning.skipping.rests.Kinds.ps scanning.skipping.rests.Kinds.r scanning.skipping.rests.Reads.Post
rests_settled _ _ _ _ _ _ p q = (same p q, refl)

-- ---- measure

inserted_in_settled : Settled 0 measure.additions.inserted_in.Kinds.ps measure.additions.inserted_in.Kinds.r measure.additions.inserted_in.Reads.Post
inserted_in_settled _ _ _ _ _ _ p q = (same p q, refl)

padding_in_settled : Settled 0 measure.additions.padding_in.Kinds.ps measure.additions.padding_in.Kinds.r measure.additions.padding_in.Reads.Post
padding_in_settled _ _ _ _ _ _ p q = (same p q, refl)

opened_settled : Settled 0 measure.framing.opened.Kinds.ps measure.framing.opened.Kinds.r measure.framing.opened.Reads.Post
opened_settled _ _ _ _ _ _ p q = (same p q, refl)

closed_settled : Settled 0 measure.framing.closed.Kinds.ps measure.framing.closed.Kinds.r measure.framing.closed.Reads.Post
closed_settled _ _ _ _ _ _ p q = (same p q, refl)

none_settled : Settled 0 measure.growing.none.Kinds.ps measure.growing.none.Kinds.r measure.growing.none.Reads.Post
none_settled _ _ _ _ _ _ p q = (same p q, refl)

pad_byte_settled : Settled 0 measure.padding.pad_byte.Kinds.ps measure.padding.pad_byte.Kinds.r measure.padding.pad_byte.Reads.Post
pad_byte_settled _ _ _ _ _ _ p q = (same p q, refl)

before_text_settled : Settled 0 measure.padding.before_text.Kinds.ps measure.padding.before_text.Kinds.r measure.padding.before_text.Reads.Post
before_text_settled _ _ _ _ _ _ p q = (same p.0 q.0, refl)

-- ---- comparisons

-- ---- dress

dress_settled : Settled 1 dress.dress.Kinds.ps dress.dress.Kinds.r dress.dress.Reads.Post
dress_settled _ _ _ _ _ _ p q = (same p.0 q.0, here (same p.1 q.1))

dress_bare_settled : Settled 2 dress.dress_bare.Kinds.ps dress.dress_bare.Kinds.r dress.dress_bare.Reads.Post
dress_bare_settled _ _ _ _ _ _ p q = (same p.0 q.0, here (same p.1 q.1))

-- ---- decimal

-- ---- file_name

-- ---- wording

-- ---- layouts

add_layout_settled : Settled 1 layouts.add_layout.Kinds.ps layouts.add_layout.Kinds.r layouts.add_layout.Reads.Post
add_layout_settled _ _ _ _ _ _ p q = (same p q, refl)

layout_len_settled : Settled 1 layouts.layout_len.Kinds.ps layouts.layout_len.Kinds.r layouts.layout_len.Reads.Post
layout_len_settled _ _ _ _ _ _ p q = (same p q, refl)

put_layout_settled : Settled 2 layouts.put_layout.Kinds.ps layouts.put_layout.Kinds.r layouts.put_layout.Reads.Post
put_layout_settled _ _ _ _ _ _ p q = (same p.0 q.0, past (past (past (past (here (same p.1 q.1))))))

-- ---- leaves

add_field_settled : Settled 2 leaves.add_field.Kinds.ps leaves.add_field.Kinds.r leaves.add_field.Reads.Post
add_field_settled _ _ _ _ _ _ p q = (same p q, refl)

field_len_settled : Settled 2 leaves.field_len.Kinds.ps leaves.field_len.Kinds.r leaves.field_len.Reads.Post
field_len_settled _ _ _ _ _ _ p q = (same p q, refl)

put_field_settled : Settled 3 leaves.put_field.Kinds.ps leaves.put_field.Kinds.r leaves.put_field.Reads.Post
put_field_settled _ _ _ _ _ _ p q = (same p.0 q.0, past (past (past (past (here (same p.1 q.1))))))

-- ---- rows

members_len_settled : Settled 3 rows.Material.members_len.Kinds.ps rows.Material.members_len.Kinds.r rows.Material.members_len.Reads.Post
members_len_settled _ _ _ _ _ _ p q = (same p q, refl)

member_after_settled : Settled 1 members.member_after.Kinds.ps members.member_after.Kinds.r members.member_after.Reads.Post
member_after_settled _ _ _ _ _ _ p q = (same p q, refl)

forward_settled : Settled 2 members.forward.Kinds.ps members.forward.Kinds.r members.forward.Reads.Post
forward_settled _ _ _ _ _ _ p q = (refl, past (past (here (same p q))))

is_bare_settled : Settled 2 rows.Material.is_bare.Kinds.ps rows.Material.is_bare.Kinds.r rows.Material.is_bare.Reads.Post
is_bare_settled _ _ _ _ _ _ p q = (same p q, refl)

frame_at_settled : Settled 3 rows.Material.frame_at.Kinds.ps rows.Material.frame_at.Kinds.r rows.Material.frame_at.Reads.Post
frame_at_settled _ _ _ _ _ _ p q = (same p q, refl)

-- ---- line

write_line_settled : Settled 5 line.write_line.Kinds.ps line.write_line.Kinds.r line.write_line.Reads.Post
write_line_settled _ _ _ _ _ _ p q = (same p.0 q.0, past (past (past (past (past (past (here (same p.1 q.1))))))))

-- ---- what any sink takes: T is the type of the sink, K says what it is after a text, and what the buffer is

module _ (T : RattleType) (L : Laws T) (C : IsCopy T) (K : sink.Ghosts T.Denot) (D : Dict) (E : clone.Ghosts T.Denot) (F : Dict) where
  take_settled : Settled 3 (measure.sink.Sink.take.Kinds.ps T L C) (measure.sink.Sink.take.Kinds.r T L C) (measure.sink.Sink.take.Reads.Post T L C K D E F)
  take_settled _ _ _ _ _ _ p q = (same p.0 q.0, past (past (here (same p.1 q.1))))

  write_head_settled : Settled 3 (comparisons.head.write_head.Kinds.ps T L C) (comparisons.head.write_head.Kinds.r T L C) (comparisons.head.write_head.Reads.Post T L C K D E F)
  write_head_settled _ _ _ _ _ _ p q = (same p.0 q.0, past (past (past (past (here (same p.1 q.1))))))

  write_number_settled : Settled 2 (decimal.write_number.Kinds.ps T L C) (decimal.write_number.Kinds.r T L C) (decimal.write_number.Reads.Post T L C K D E F)
  write_number_settled _ _ _ _ _ _ p q = (same p.0 q.0, past (past (here (same p.1 q.1))))

  write_file_name_settled : Settled 3 (file_name.write_file_name.Kinds.ps T L C) (file_name.write_file_name.Kinds.r T L C) (file_name.write_file_name.Reads.Post T L C K D E F)
  write_file_name_settled _ _ _ _ _ _ p q = (same p.0 q.0, past (past (past (past (past (here (same p.1 q.1)))))))

  write_wording_settled : Settled 3 (wording.write_wording.Kinds.ps T L C) (wording.write_wording.Kinds.r T L C) (wording.write_wording.Reads.Post T L C K D E F)
  write_wording_settled _ _ _ _ _ _ p q = (same p.0 q.0, past (past (past (here (same p.1 q.1)))))

  write_text_settled : Settled 3 (leaves.write_text.Kinds.ps T L C) (leaves.write_text.Kinds.r T L C) (leaves.write_text.Reads.Post T L C K D E F)
  write_text_settled _ _ _ _ _ _ p q = (same p.0 q.0, past (past (past (past (here (same p.1 q.1))))))
