-- What a line call answers, and what it leaves in the lent buffer. Assumes nothing.
use Rattle.std.specs.Prelude.{ℕ, ◌+◌, ◌*◌, ◌≡◌, Bool, true, false, ◌&&◌, Result, Ok, Err, List, leb, length}
use Rattle.buffer.specs.Buffer.{put_at}
use Rattle.buffer.specs.Table.{Maybe, none, some}
use Rattle.refusals.specs.declared.Refusal.{Refusal}
use Rattle.refusals.specs.Numbers.{number, value_with}
use Rattle.colour.specs.declared.Settings.{Settings}
use Rattle.settings.specs.Bits.{is_known, settings_of, edition_of, form_of}
use Rattle.segments.specs.Segments.{LogSegments}
use Rattle.template.specs.declared.Edition.{Edition}
use Rattle.template.specs.Template.{Template, read, refusal, read_by}
use Rattle.fields.specs.Lines.{line_of}
use Rattle.record.specs.declared.Form.{Form}
use Rattle.record.specs.Layout.{Laid, right_size, laid_out}
use Rattle.checks.specs.Checks.{record_refusal}
use Rattle.record.specs.Contents.{record_of}

-- a line, or a refusal
pub data Outcome : Type 0 where
  line : List ℕ → Outcome
  refused : Refusal → Outcome

-- refusal 13: "the whole line is longer than the lent buffer; the needed length is returned"
unfoldable pub in_room : ℕ → List ℕ → Outcome
in_room room s = elim (leb (length s) room) [ true ↦ line s | false ↦ refused (Refusal.LineTooLong (length s)) ]

-- a record that passes its checks gets its line, any other its refusal
unfoldable pub passed : Settings → List ℕ → LogSegments → Laid → ℕ → Maybe Refusal → Outcome
passed settings t s d room none = in_room room (line_of settings t s (record_of d))
passed settings t s d room (some r) = refused r

-- the record d, laid out in that form, by a template that was read: the form decides on its checks alone
unfoldable pub record_outcome : Form → Settings → List ℕ → LogSegments → Laid → ℕ → Outcome
record_outcome form settings t s d room = passed settings t s d room (record_refusal form d)

-- the record d by what reading the template gave
unfoldable pub by_template : Form → Settings → List ℕ → Laid → ℕ → Template → Outcome
by_template form settings t d room (read s) = record_outcome form settings t s d room
by_template form settings t d room (refusal r) = refused r

-- Order: 1; 2; then 3 and 5 to 9; 4; 17; 14; "then for file, module, timestamp, message in turn 11 before 12; 13", the serial's after the message's: the record d
-- in that form by the template t in that edition, with so much room in the lent buffer
unfoldable pub outcome : Form → Edition → Settings → List ℕ → Laid → ℕ → Outcome
outcome form edition settings t d room = by_template form settings t d room (read_by edition t)

-- "Every refusal leaves lent memory as found. An accepted line changes only its own bytes at the front of the buffer"
unfoldable pub buffer_after : List ℕ → Outcome → List ℕ
buffer_after d (line s) = put_at d 0 s
buffer_after d (refused r) = d

-- "Every refusal returns its number (13 also the length; no other refusal returns one)"; 17 "with the place": number + 256 × length or place
unfoldable pub packed : Outcome → ℕ
packed (line s) = 256 * length s
packed (refused r) = number r + 256 * value_with r

-- "The statement settles answer and buffers for each input, refused or not": what an entry returns and leaves in the buffer lent to it
pub record Meets (o : Outcome) (lent left : List ℕ) (answer : ℕ) : Type 0 where
  pub returned : answer ≡ packed o
  pub buffer : left ≡ buffer_after lent o

-- ---- a call with the settings byte and the record's bytes

-- "an unknown settings bit or a record of the wrong size is 15", in a call as in a sheet
unfoldable pub is_call : ℕ → List ℕ → Bool
is_call settings d = is_known settings && right_size (form_of settings) d

-- the outcome of a call with so much room
unfoldable pub call_outcome : ℕ → List ℕ → List ℕ → ℕ → Outcome
call_outcome settings t d room =
    elim (is_call settings d) [
      | true ↦ outcome (form_of settings) (edition_of settings) (settings_of settings) t (laid_out (form_of settings) d) room
      | false ↦ refused Refusal.NotASheet
    ]

-- the outcome of a call with a lent buffer
abbrev pub line_entry : List ℕ → ℕ → List ℕ → List ℕ → Outcome
line_entry t settings d lent = call_outcome settings t d (length lent)

-- what the code's answer says of an outcome: a line by its length
unfoldable pub answer_of : Outcome → Result ℕ Refusal
answer_of (line s) = Ok (length s)
answer_of (refused r) = Err r
