-- Answers and buffers by the room that there is, and the line of a record that passed its checks. Assumes nothing.
use Rattle.std.specs.Prelude.{Result, Ok, Err}
use Prim.Native.Nat.{ℕ, ◌≤◌}
use mathlib.Core.Path.{◌≡◌, refl, sym, ap, subst, ◌∙◌}
use mathlib.Core.Bool.{Bool, true, false}
use mathlib.Core.List.{List, append-nil}
use native.Mathlib.Omega.{arith}
use lib.Dec.{leb}
use lib.ListN.{length}
use Rattle.buffer.specs.Buffer.{put_at, written}
use Rattle.buffer.specs.Table.{Maybe, none, some}
use Rattle.utf8.specs.Utf8.{valid}
use Rattle.refusals.specs.declared.Refusal.{Refusal}
use Rattle.refusals.specs.Numbers.{number, value_with}
use Rattle.words.specs.declared.Color.{Color}
use Rattle.colour.specs.declared.Settings.{Settings}
use Rattle.colour.specs.Shown.{text_of, joined}
use Rattle.segments.specs.declared.Cell.{Cell}
use Rattle.segments.specs.Segments.{LogSegments}
use Rattle.template.specs.declared.Edition.{Edition}
use Rattle.template.specs.Template.{read, refusal, read_by}
use Rattle.record.specs.declared.Form.{Form}
use Rattle.record.specs.declared.Places.{Places}
use Rattle.record.specs.Layout.{Laid, laid_out, right_size}
use Rattle.record.specs.Placed.{laid_by}
use Rattle.checks.specs.Checks.{record_refusal, badly_marked, most_field, most_serial, field_refusal, fields_refusal, or_next}
use Rattle.record.specs.declared.Name.{Name}
use Rattle.record.specs.declared.Level.{Level}
use Rattle.record.specs.Levels.{level_of}
use Rattle.record.specs.Contents.{record_of}
use Rattle.checks.proofs.Passing.{passes}
use Rattle.record.specs.Records.{Record}
use Rattle.fields.specs.Worded.{Compares}
use Rattle.fields.specs.Lines.{print_shown, record_shown, line_of}
use Rattle.leaves.specs.declared.Shown.{Shown}
use Rattle.leaves.specs.Places.{record_by, Short, Lent}
use Rattle.rows.specs.Texts.{segments_text}
use Rattle.rows.specs.Rows.{Writable}
use Rattle.answer.specs.Answers.{Outcome, line, refused, in_room, passed, record_outcome, buffer_after, answer_of, packed, by_template, outcome, is_call, call_outcome}
use Rattle.settings.specs.Bits.{is_known, settings_of, edition_of, form_of}
use Rattle.answer.specs.Maker.{Maker, IsRead}
use Rattle.answer.specs.Rooms.{Accepted, segments_of, outcome_by}
use Rattle.packing.specs.Packing.{answer_in, packed_answer}

-- ---- by the room

pub answer_in_room : (room : ℕ) (x : List ℕ) → answer_in room (length x) ≡ answer_of (in_room room x)
unfolding answer_in in_room answer_of
answer_in_room room x = by (leb (length x) room)
  where
    by : (b : Bool) → ◌≡◌ {A = Result ℕ Refusal} (elim b [ true ↦ Ok (length x) | false ↦ Err (Refusal.LineTooLong (length x)) ])
        (answer_of (elim b [ true ↦ line x | false ↦ refused (Refusal.LineTooLong (length x)) ]))
    by true = refl
    by false = refl

pub buffer_in_room : (d x : List ℕ) → written d x ≡ buffer_after d (in_room (length d) x)
unfolding written in_room buffer_after
buffer_in_room d x = by (leb (length x) (length d))
  where
    by : (b : Bool) → ◌≡◌ {A = List ℕ} (elim b [ true ↦ put_at d 0 x | false ↦ d ])
        (buffer_after d (elim b [ true ↦ line x | false ↦ refused (Refusal.LineTooLong (length x)) ]))
    by true = refl
    by false = refl

-- ---- by the checks

module _ (form : Form) (s : Settings) (t : List ℕ) (c : LogSegments) (l : Laid) (room : ℕ) where
  pub passed_outcome : record_refusal form l ≡ none → record_outcome form s t c l room ≡ in_room room (line_of s t c (record_of l))
  unfolding record_outcome passed
  passed_outcome e = ap (passed s t c l room) e

  pub refused_outcome : (r : Refusal) → record_refusal form l ≡ some r → record_outcome form s t c l room ≡ refused r
  unfolding record_outcome passed
  refused_outcome r e = ap (passed s t c l room) e

-- no check of a record tells a length
abbrev Unsized : Maybe Refusal → Type 0
Unsized none = Unit {0}
Unsized (some r) = value_with r ≡ 0

field_unsized : (most : ℕ) (x : List ℕ) → Unsized (field_refusal most x)
unfolding field_refusal
field_unsized most x = by (leb (length x) most) (valid x)
  where
    by : (a b : Bool) → Unsized (elim a [ true ↦ elim b [ true ↦ none | false ↦ some Refusal.FieldNotUtf8 ] | false ↦ some Refusal.FieldTooLong ])
    by true true = tt
    by true false = refl
    by false b = refl

or_unsized : (x : Maybe Refusal) (k : Unit {0} → Maybe Refusal) → Unsized x → Unsized (k tt) → Unsized (or_next x k)
unfolding or_next
or_unsized none k h g = g
or_unsized (some r) k h g = h

record_unsized : (form : Form) (l : Laid) → Unsized (record_refusal form l)
unfolding record_refusal fields_refusal
record_unsized form l = by (badly_marked form l)
  where
    fields : Unsized (fields_refusal l)
    fields =
        or_unsized _ _ (field_unsized most_field l.file)
        (or_unsized _ _ (field_unsized most_field l.module_path)
        (or_unsized _ _ (field_unsized most_field l.timestamp)
        (or_unsized _ _ (field_unsized most_field l.message) (field_unsized most_serial l.serial))))

    by : (b : Bool) → Unsized (elim b [ true ↦ some Refusal.NotARecord | false ↦ fields_refusal l ])
    by true = refl
    by false = fields

pub refusal_unsized : (form : Form) (l : Laid) (r : Refusal) → record_refusal form l ≡ some r → value_with r ≡ 0
refusal_unsized form l r e = subst Unsized e (record_unsized form l)

-- ---- the line

-- by what the level number means: the message alone, or the segments
module _ (s : Settings) (t : List ℕ) (c : LogSegments) (l : Laid) (x : Level) (e : x ≡ level_of l.level) where
  shown_as : (y : Level) → x ≡ y → line_of s t c (record_of l) ≡ joined s (record_shown y t (record_of l) c)
  unfolding line_of record_of
  shown_as y h = ap (λ (z : Level). joined s (record_shown z t (record_of l) c)) (sym e ∙ h)

  pub line_print : x ≡ Level.Print → line_of s t c (record_of l) ≡ text_of s (print_shown (record_of l))
  unfolding record_shown joined
  line_print h = shown_as Level.Print h ∙ append-nil (text_of s (print_shown (record_of l)))

  pub line_refused : x ≡ Level.Refused → line_of s t c (record_of l) ≡ text_of s (print_shown (record_of l))
  unfolding record_shown joined
  line_refused h = shown_as Level.Refused h ∙ append-nil (text_of s (print_shown (record_of l)))

  pub line_level : (n : Name) (k : Color) → x ≡ Level.Named n k → line_of s t c (record_of l) ≡ segments_text s t (record_of l) c
  unfolding record_shown
  line_level n k h = shown_as (Level.Named n k) h

pub texts_short : (form : Form) (l : Laid) → record_refusal form l ≡ none → Short l
texts_short form l e =
    let k = passes form l e in
    record {
      file = k.file.short;
      module_path = k.module_path.short;
      timestamp = k.timestamp.short;
      message = k.message.short;
      serial = omega (arith, k.serial.short);
    }

-- what is shown of a record that passed its checks
module _ (d : List ℕ) (x : Shown) (h : Accepted d x.places) (k : Compares d x.places x.spans) where
  pub lent : Lent d x
  unfolding record_by record_of
  lent = record { places = h.places; short = h.texts.message; compared = k }

  pub writable : (t : List ℕ) (cells : List Cell) (n : ℕ) → IsRead t cells n → Writable cells t d x n
  writable t cells n i = record {
    readable = record { pool = i.pool; few = i.read.few; lent = lent };
    sound = i.read.sound;
    tidy = i.read.tidy;
    few = omega (arith, i.read.counted, i.read.few);
    low = i.read.low;
    template = i.template;
    texts = h.texts;
  }

-- ---- by the record's size

module _ (r : Maker) (d : List ℕ) (room : ℕ) where
  pub sized : right_size r.form d ≡ true → record_outcome r.form r.settings r.template (segments_of r) (laid_out r.form d) room ≡ outcome_by r d room
  unfolding outcome_by
  sized h = rw (h, outcome_by)

  pub missized : right_size r.form d ≡ false → refused Refusal.NotASheet ≡ outcome_by r d room
  unfolding outcome_by
  missized h = rw (h, outcome_by)

-- ---- answers and buffers by the checks

module _ (form : Form) (s : Settings) (t : List ℕ) (c : LogSegments) (l m : Laid) (e : l ≡ m) where
  pub answer_passed : (room n : ℕ) (r : Result ℕ Refusal) → record_refusal form l ≡ none → n ≡ length (line_of s t c (record_of l)) → r ≡ answer_in room n
      → r ≡ answer_of (record_outcome form s t c m room)
  answer_passed room n r h k a =
      a
      ∙ ap (answer_in room) k
      ∙ answer_in_room room (line_of s t c (record_of l))
      ∙ ap answer_of (sym (passed_outcome form s t c l room h))
      ∙ ap (λ (x : Laid). answer_of (record_outcome form s t c x room)) e

  pub buffer_passed : (d o : List ℕ) → record_refusal form l ≡ none → o ≡ written d (line_of s t c (record_of l))
      → o ≡ buffer_after d (record_outcome form s t c m (length d))
  buffer_passed d o h a =
      a
      ∙ buffer_in_room d (line_of s t c (record_of l))
      ∙ ap (buffer_after d) (sym (passed_outcome form s t c l (length d) h))
      ∙ ap (λ (x : Laid). buffer_after d (record_outcome form s t c x (length d))) e

  pub answer_refused : (room : ℕ) (r : Refusal) → record_refusal form l ≡ some r → Err r ≡ answer_of (record_outcome form s t c m room)
  unfolding answer_of
  answer_refused room r h =
      ap answer_of (sym (refused_outcome form s t c l room r h)) ∙ ap (λ (x : Laid). answer_of (record_outcome form s t c x room)) e

  pub buffer_refused : (d : List ℕ) (r : Refusal) → record_refusal form l ≡ some r → d ≡ buffer_after d (record_outcome form s t c m (length d))
  unfolding buffer_after
  buffer_refused d r h =
      ap (buffer_after d) (sym (refused_outcome form s t c l (length d) r h)) ∙ ap (λ (x : Laid). buffer_after d (record_outcome form s t c x (length d))) e

-- ---- by the template and the call

-- one number for an outcome
pub packed_answer_lem : (o : Outcome) → packed_answer (answer_of o) ≡ packed o
unfolding packed_answer answer_of packed
packed_answer_lem (line s) = refl
packed_answer_lem (refused r) = refl

pub same_outcome : (f f' : Form) (e e' : Edition) (s s' : Settings) → f ≡ f' → e ≡ e' → s ≡ s' → (t d : List ℕ) (room : ℕ)
    → outcome f e s t (laid_out f d) room ≡ outcome f' e' s' t (laid_out f' d) room
same_outcome f f' e e' s s' o p q t d room = λ k. outcome (o k) (p k) (q k) t (laid_out (o k) d) room

module _ (form : Form) (edition : Edition) (s : Settings) (t : List ℕ) (l : Laid) (room : ℕ) where
  pub read_outcome : (c : LogSegments) → read_by edition t ≡ read c → record_outcome form s t c l room ≡ outcome form edition s t l room
  unfolding outcome by_template
  read_outcome c e = ap (by_template form s t l room) (sym e)

  pub unread_outcome : (r : Refusal) → read_by edition t ≡ refusal r → refused r ≡ outcome form edition s t l room
  unfolding outcome by_template
  unread_outcome r e = ap (by_template form s t l room) (sym e)

module _ (settings : ℕ) (t d : List ℕ) (room : ℕ) where
  pub unknown_bit : is_known settings ≡ false → refused Refusal.NotASheet ≡ call_outcome settings t d room
  unfolding call_outcome is_call
  unknown_bit h = rw (h, call_outcome)

  pub wrong_size : is_known settings ≡ true → right_size (form_of settings) d ≡ false → refused Refusal.NotASheet ≡ call_outcome settings t d room
  unfolding call_outcome is_call
  wrong_size h e = rw (h, e, call_outcome)

  pub is_call_lem : is_known settings ≡ true → right_size (form_of settings) d ≡ true → outcome (form_of settings) (edition_of settings) (settings_of settings) t (laid_out (form_of settings) d) room ≡ call_outcome settings t d room
  unfolding call_outcome is_call
  is_call_lem h e = rw (h, e, call_outcome)
