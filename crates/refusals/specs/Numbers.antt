-- "Numbers given instead of a line" (document 01; 17 of document 02): the number of each refusal, and the length or place that comes with it. Assumes nothing.
use Rattle.std.specs.Prelude.{ℕ}
use Rattle.refusals.specs.declared.Refusal.{Refusal}
use Rattle.refusals.specs.declared.Refusal.TheVariants.{TemplateTooLong, TemplateNotUtf8, Failure, NoMessage, TooManySegments, TooDeep, TooWide, TooManyF, HalfEscape, FieldTooLong, FieldNotUtf8, LineTooLong, NotARecord, NotASheet, Dropped}

-- the number of each refusal, with the sentence that says when it is given
abbrev pub number : Refusal → ℕ
-- "template over 1,024 bytes"
number TemplateTooLong = 1
-- "template not UTF-8"
number TemplateNotUtf8 = 2
-- "the crate's parser fails outright on it (a `Failure`)"
number Failure = 3
-- "read, but no `{s}` at any depth; the empty template too"
number NoMessage = 4
-- "a 65th segment is made"
number TooManySegments = 5
-- "a closed brace is entered at depth 9 (outermost is 1)"
number TooDeep = 6
-- "a width above 512 is read, however many digits"
number TooWide = 7
-- "a specifier name of more than 255 `f`"
number TooManyF = 8
-- "a search for a closing brace meets a backslash as the last byte of its text"
number HalfEscape = 9
-- (document 02, E3: "Refusal 10 is no longer given"; its number stays free)
-- "a field over 4,096 bytes"
number FieldTooLong = 11
-- "a field not UTF-8"
number FieldNotUtf8 = 12
-- "the whole line is longer than the lent buffer; the needed length is returned"
number (LineTooLong n) = 13
-- "source over 1, level over 5, host without level, presence mask over 7, or an absent field with a non-zero length or line"
number NotARecord = 14
-- "sheet over 65,536 bytes, or not laid out exactly as the sheet section says"
number NotASheet = 15
-- "bytes dropped or a parameter lost, with the place (from 0) of the first dropped byte or, if it comes earlier, of the lost parameter" (document 02, E5)
number (Dropped p) = 17

-- "13 also the length; no other refusal returns one"; 17 returns "the place (from 0)"
abbrev pub value_with : Refusal → ℕ
value_with TemplateTooLong = 0
value_with TemplateNotUtf8 = 0
value_with Failure = 0
value_with NoMessage = 0
value_with TooManySegments = 0
value_with TooDeep = 0
value_with TooWide = 0
value_with TooManyF = 0
value_with HalfEscape = 0
value_with FieldTooLong = 0
value_with FieldNotUtf8 = 0
value_with (LineTooLong n) = n
value_with NotARecord = 0
value_with NotASheet = 0
value_with (Dropped p) = p
