-- Every contract of the functions that read templates settles its result and what is lent, each under the function's own name.
-- p and q say that two results meet it; `past` and `here` lead to the lent buffer among the parameters. Assumes nothing.
use Prim.Native.Nat.{◌-◌, ◌≤◌}
use mathlib.Core.Path.{refl}
use native.Mathlib.Omega.{arith}
use Rattle.settled.specs.Settled.{Settled}
use Rattle.settled.proofs.Equal.{same, here, past}
use Rattle.contracts.proofs.Told.{told_place}
use Rattle.words.proofs.Answers.{told_settled}
use Rattle.refusals.proofs as refusals
use Rattle.buffer.proofs as buffer
use Rattle.utf8.proofs as utf8
use Rattle.characters.proofs as characters
use Rattle.points.proofs as points
use Rattle.widths.proofs as widths
use Rattle.runs.proofs as runs
use Rattle.letters.proofs as letters
use Rattle.spelling.proofs as spelling
use Rattle.words.proofs as words
use Rattle.pool.proofs as pool
use Rattle.naming.proofs as naming
use Rattle.parts.proofs as parts
use Rattle.braces.proofs as braces
use Rattle.lists.proofs as lists
use Rattle.reader.proofs as reader
use Rattle.endings.proofs as endings
use Rattle.unused.proofs as unused
use Rattle.template.proofs as template

-- ---- refusals

number_of_settled : Settled 0 refusals.number_of.Kinds.ps refusals.number_of.Kinds.r refusals.number_of.Reads.Post
number_of_settled _ _ _ _ _ _ p q = (same p.0 q.0, refl)

value_with_settled : Settled 0 refusals.value_with.Kinds.ps refusals.value_with.Kinds.r refusals.value_with.Reads.Post
value_with_settled _ _ _ _ _ _ p q = (same p q, refl)

-- ---- buffer

put_settled : Settled 2 buffer.put.Kinds.ps buffer.put.Kinds.r buffer.put.Reads.Post
put_settled _ _ _ _ _ _ p q = (same p.0 q.0, here (same p.1 q.1))

fill_settled : Settled 1 buffer.fill.Kinds.ps buffer.fill.Kinds.r buffer.fill.Reads.Post
fill_settled _ _ _ _ _ _ p q = (same p.0 q.0, here (same p.1 q.1))

-- ---- utf8

is_ascii_settled : Settled 1 utf8.is_ascii.Kinds.ps utf8.is_ascii.Kinds.r utf8.is_ascii.Reads.Post
is_ascii_settled _ _ _ _ _ _ p q = (same p q, refl)

is_utf8_settled : Settled 1 utf8.is_utf8.Kinds.ps utf8.is_utf8.Kinds.r utf8.is_utf8.Reads.Post
is_utf8_settled _ _ _ _ _ _ p q = (same p q, refl)

below_settled : Settled 0 utf8.ones.below.Kinds.ps utf8.ones.below.Kinds.r utf8.ones.below.Reads.Post
below_settled _ _ _ _ _ _ p q = (same p q, refl)

goes_on_settled : Settled 0 utf8.ones.goes_on.Kinds.ps utf8.ones.goes_on.Kinds.r utf8.ones.goes_on.Reads.Post
goes_on_settled _ _ _ _ _ _ p q = (same p q, refl)

-- ---- characters

count_chars_settled : Settled 1 characters.count_chars.Kinds.ps characters.count_chars.Kinds.r characters.count_chars.Reads.Post
count_chars_settled _ _ _ _ _ _ p q = (λ i. record { chars = same p.0 q.0 i; met = same p.1 q.1 i }, refl)

-- ---- points

size_of_settled : Settled 0 points.decoding.size_of.Kinds.ps points.decoding.size_of.Kinds.r points.decoding.size_of.Reads.Post
size_of_settled _ _ _ _ _ _ p q = (same p.0 q.0, refl)

byte_at_settled : Settled 1 points.decoding.byte_at.Kinds.ps points.decoding.byte_at.Kinds.r points.decoding.byte_at.Reads.Post
byte_at_settled _ _ _ _ _ _ p q = (same p q, refl)

with_six_settled : Settled 0 points.decoding.with_six.Kinds.ps points.decoding.with_six.Kinds.r points.decoding.with_six.Reads.Post
with_six_settled _ _ _ _ _ _ p q = (same p.0 q.0, refl)

point_settled : Settled 0 points.decoding.point.Kinds.ps points.decoding.point.Kinds.r points.decoding.point.Reads.Post
point_settled _ _ _ _ _ _ p q = (same p q, refl)

is_among_settled : Settled 1 points.search.is_among.Kinds.ps points.search.is_among.Kinds.r points.search.is_among.Reads.Post
is_among_settled _ _ _ _ _ _ p q = (same p q, refl)

-- ---- widths

begun_by_settled : Settled 0 widths.counting.begun_by.Kinds.ps widths.counting.begun_by.Kinds.r widths.counting.begun_by.Reads.Post
begun_by_settled _ _ _ _ _ _ p q = (same p q, refl)

advance_settled : Settled 0 widths.counting.advance.Kinds.ps widths.counting.advance.Kinds.r widths.counting.advance.Reads.Post
advance_settled _ _ _ _ _ _ p q = (same p q, refl)

run_text_settled : Settled 1 widths.table.run_text.Kinds.ps widths.table.run_text.Kinds.r widths.table.run_text.Reads.Post
run_text_settled _ _ _ _ _ _ p q = (same p q, refl)

-- ---- runs

stands_at_settled : Settled 1 runs.stands_at.Kinds.ps runs.stands_at.Kinds.r runs.stands_at.Reads.Post
stands_at_settled _ _ _ _ _ _ p q = (same p q, refl)

letters_end_settled : Settled 1 runs.letters_end.Kinds.ps runs.letters_end.Kinds.r runs.letters_end.Reads.Post
letters_end_settled _ _ _ _ _ _ p q = (same p.0 q.0, refl)

digits_end_settled : Settled 1 runs.digits_end.Kinds.ps runs.digits_end.Kinds.r runs.digits_end.Reads.Post
digits_end_settled _ _ _ _ _ _ p q = (same p.0 q.0, refl)

number_up_to_settled : Settled 1 runs.numbers.number_up_to.Kinds.ps runs.numbers.number_up_to.Kinds.r runs.numbers.number_up_to.Reads.Post
number_up_to_settled _ _ _ _ _ _ p q = (same p q, refl)

-- ---- letters

is_unmarked_settled : Settled 1 letters.doubt.is_unmarked.Kinds.ps letters.doubt.is_unmarked.Kinds.r letters.doubt.is_unmarked.Reads.Post
is_unmarked_settled _ _ _ _ _ _ p q = (same p q, refl)

mark_letters_settled : Settled 2 letters.table.mark_letters.Kinds.ps letters.table.mark_letters.Kinds.r letters.table.mark_letters.Reads.Post
mark_letters_settled _ _ _ _ _ _ p q = (refl, past (here (same p q)))

-- ---- spelling

word_index_settled : Settled 3 spelling.word_index.Kinds.ps spelling.word_index.Kinds.r spelling.word_index.Reads.Post
word_index_settled _ _ _ _ _ _ p q = (same p q, refl)

is_repeated_f_settled : Settled 1 spelling.is_repeated_f.Kinds.ps spelling.is_repeated_f.Kinds.r spelling.is_repeated_f.Reads.Post
is_repeated_f_settled _ _ _ _ _ _ p q = (same p q, refl)

-- ---- words

parse_metadata_settled : Settled 1 words.parser.parse_metadata.Kinds.ps words.parser.parse_metadata.Kinds.r words.parser.parse_metadata.Reads.Post
parse_metadata_settled _ _ _ _ _ _ p q = (told_settled _ _ (same p.0 q.0), refl)

parse_format_settled : Settled 1 words.parser.parse_format.Kinds.ps words.parser.parse_format.Kinds.r words.parser.parse_format.Reads.Post
parse_format_settled _ _ _ _ _ _ p q = (told_settled _ _ (same p.0 q.0), refl)

-- ---- pool

kind_at_settled : Settled 1 pool.kind_at.Kinds.ps pool.kind_at.Kinds.r pool.kind_at.Reads.Post
kind_at_settled _ _ _ _ _ _ p q = (same p q, refl)

format_at_settled : Settled 1 pool.format_at.Kinds.ps pool.format_at.Kinds.r pool.format_at.Reads.Post
format_at_settled _ _ _ _ _ _ p q = (same p q, refl)

back_at_settled : Settled 1 pool.back_at.Kinds.ps pool.back_at.Kinds.r pool.back_at.Reads.Post
back_at_settled _ _ _ _ _ _ p q = (same p.0 q.0, refl)

last_at_settled : Settled 1 pool.last_at.Kinds.ps pool.last_at.Kinds.r pool.last_at.Reads.Post
last_at_settled _ _ _ _ _ _ p q = (same p.0 q.0, refl)

-- ---- naming

names_settled : Settled 1 naming.names.Kinds.ps naming.names.Kinds.r naming.names.Reads.Post
names_settled _ _ _ _ _ _ p q = (same p q, refl)

-- ---- parts

no_parts_settled : Settled 0 parts.no_parts.Kinds.ps parts.no_parts.Kinds.r parts.no_parts.Reads.Post
no_parts_settled _ _ _ _ _ _ p q = (same p q, refl)

with_specifier_settled : Settled 0 parts.with_specifier.Kinds.ps parts.with_specifier.Kinds.r parts.with_specifier.Reads.Post
with_specifier_settled _ _ _ _ _ _ p q = (same p q, refl)

with_parameter_settled : Settled 0 parts.with_parameter.Kinds.ps parts.with_parameter.Kinds.r parts.with_parameter.Reads.Post
with_parameter_settled _ _ _ _ _ _ p q = (same p q, refl)

-- ---- braces

take_until_unbalanced_settled : Settled 1 braces.take_until_unbalanced.Kinds.ps braces.take_until_unbalanced.Kinds.r braces.take_until_unbalanced.Reads.Post
take_until_unbalanced_settled _ _ _ _ _ _ p q = (same p.0 q.0, refl)

-- ---- lists

plain_end_settled : Settled 1 lists.plain_end.Kinds.ps lists.plain_end.Kinds.r lists.plain_end.Reads.Post
plain_end_settled _ _ _ _ _ _ p q = (same p.0 q.0, refl)

parse_word_settled : Settled 1 lists.parse_word.Kinds.ps lists.parse_word.Kinds.r lists.parse_word.Reads.Post
parse_word_settled _ _ _ _ _ _ p q = (told_settled _ _ (same p.0 q.0), refl)

parse_parameter_settled : Settled 1 lists.parse_parameter.Kinds.ps lists.parse_parameter.Kinds.r lists.parse_parameter.Reads.Post
parse_parameter_settled _ _ _ _ _ _ p q = (told_settled _ _ (same p.0 q.0), refl)

-- the number of words is bounded by any number that is large enough: here by the end
further_words_settled : Settled 1 lists.further_words.Kinds.ps lists.further_words.Kinds.r lists.further_words.Reads.Post
further_words_settled _ a _ _ _ _ p q =
    let to = a.1.1.0 in
    let h : to - a.1.0 ≤ to = omega arith in
    (told_settled _ _ (same (p.0 to h) (q.0 to h)), refl)

with_segment_settled : Settled 0 lists.with_segment.Kinds.ps lists.with_segment.Kinds.r lists.with_segment.Reads.Post
with_segment_settled _ _ _ _ _ _ p q = (same p q, refl)

with_member_settled : Settled 0 lists.with_member.Kinds.ps lists.with_member.Kinds.r lists.with_member.Reads.Post
with_member_settled _ _ _ _ _ _ p q = (same p q, refl)

-- ---- reader

separator_of_settled : Settled 0 reader.separator_of.Kinds.ps reader.separator_of.Kinds.r reader.separator_of.Reads.Post
separator_of_settled _ _ _ _ _ _ p q = (same p q, refl)

-- ---- endings

parameter_end_settled : Settled 1 endings.parameter_end.Kinds.ps endings.parameter_end.Kinds.r endings.parameter_end.Reads.Post
parameter_end_settled _ _ _ _ _ _ p q = (same p.0 q.0, refl)

word_end_settled : Settled 1 endings.word_end.Kinds.ps endings.word_end.Kinds.r endings.word_end.Reads.Post
word_end_settled _ _ _ _ _ _ p q = (same p.0 q.0, refl)

text_end_settled : Settled 1 endings.text_end.Kinds.ps endings.text_end.Kinds.r endings.text_end.Reads.Post
text_end_settled _ _ _ _ _ _ p q = (same p.0 q.0, refl)

plain_piece_end_settled : Settled 1 endings.plain_piece_end.Kinds.ps endings.plain_piece_end.Kinds.r endings.plain_piece_end.Reads.Post
plain_piece_end_settled _ _ _ _ _ _ p q = (same p.0 q.0, refl)

-- ---- unused

unused_in_settled : Settled 1 unused.unused_in.Kinds.ps unused.unused_in.Kinds.r unused.unused_in.Reads.Post
unused_in_settled _ _ _ _ _ _ p q = (told_place _ _ (same p.0 q.0), refl)

-- ---- template

format_has_timestamp_settled : Settled 1 template.format_has_timestamp.Kinds.ps template.format_has_timestamp.Kinds.r template.format_has_timestamp.Reads.Post
format_has_timestamp_settled _ _ _ _ _ _ p q = (same p q, refl)
