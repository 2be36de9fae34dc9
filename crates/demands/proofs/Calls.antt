-- Demand 1 holds of every line call. Assumes nothing.
use Prim.Native.Nat.{ℕ, ◌≤◌, ◌<◌}
use mathlib.Core.Path.{◌≡◌, refl, ap, sym, subst, ◌∙◌}
use mathlib.Core.Bool.{Bool, true, false, ◌&&◌}
use mathlib.Core.List.{List}
use mathlib.Core.Logic.{◌↔◌, inl, inr}
use native.Mathlib.Omega.{arith}
use lib.Dec.{leb, ltb}
use lib.ListN.{length}
use borrow.Author.Tests.{ltb-true, ltb-false, le-ltb, lt-ltb}
use Rattle.buffer.proofs.Sameness.{both_true}
use Rattle.buffer.specs.Table.{Maybe, none, some}
use Rattle.refusals.specs.declared.Refusal.{Refusal}
use Rattle.refusals.specs.declared.Refusal.TheVariants.{TemplateTooLong, TemplateNotUtf8, Failure, NoMessage, TooManySegments, TooDeep, TooWide, TooManyF, HalfEscape, FieldTooLong, FieldNotUtf8, LineTooLong, NotARecord, NotASheet, Dropped}
use Rattle.refusals.specs.Numbers.{number}
use Rattle.segments.specs.Segments.{LogSegments}
use Rattle.template.specs.Template.{Template, read, refusal, read_by}
use Rattle.record.specs.Layout.{right_size}
use Rattle.checks.specs.Checks.{record_refusal}
use Rattle.settings.specs.Bits.{is_known, settings_of, edition_of, form_of}
use Rattle.answer.specs.Answers.{Outcome, line, refused, in_room, passed, record_outcome, by_template, outcome, is_call, call_outcome, line_entry}
use Rattle.answer.proofs.Answering.{unknown_bit, wrong_size, is_call_lem, read_outcome, unread_outcome, passed_outcome, refused_outcome}
use Rattle.demands.specs.Conditions.{TemplateLong, TemplateBroken, Stops, Wordless, Accepts, Drops, BadlyMarked, RecordLong, RecordBroken, NoCall, IsCall, laid_in, AcceptedCall, call_line}
use Rattle.demands.specs.Demand1.{number_of, CallDemand1}
use Rattle.demands.proofs.Numbers.{Alone, refused_of, line_of, too_long_of, dropped_of, dropped_told, never_ten, length_told, length_of, returns, room_line, room_none, room_length, numbered}
use Rattle.demands.proofs.Templates.{RefusedWhen, accepted, refused_when, only_refused}
use Rattle.demands.proofs.Records.{RecordRefusedWhen, passes_when}
use Rattle.demands.proofs.Records as records

module _ (t : List ℕ) (settings : ℕ) (d : List ℕ) (room : ℕ) where
  -- ---- the table

  abbrev IsRead : Type 0
  IsRead = (s : LogSegments) × Accepts (edition_of settings) t s

  -- what has a line, in whatever room
  abbrev HasLine : Type 0
  HasLine = (s : LogSegments) × AcceptedCall t settings d s

  abbrev CallRefusedWhen : Refusal → Type 0
  CallRefusedWhen TemplateTooLong = IsCall settings d × TemplateLong t
  CallRefusedWhen TemplateNotUtf8 = IsCall settings d × TemplateBroken t
  CallRefusedWhen Failure = IsCall settings d × Stops t Failure
  CallRefusedWhen NoMessage = IsCall settings d × Wordless t
  CallRefusedWhen TooManySegments = IsCall settings d × Stops t TooManySegments
  CallRefusedWhen TooDeep = IsCall settings d × Stops t TooDeep
  CallRefusedWhen TooWide = IsCall settings d × Stops t TooWide
  CallRefusedWhen TooManyF = IsCall settings d × Stops t TooManyF
  CallRefusedWhen HalfEscape = IsCall settings d × Stops t HalfEscape
  CallRefusedWhen FieldTooLong = IsCall settings d × IsRead × RecordLong (form_of settings) (laid_in settings d)
  CallRefusedWhen FieldNotUtf8 = IsCall settings d × IsRead × RecordBroken (form_of settings) (laid_in settings d)
  CallRefusedWhen (LineTooLong n) = HasLine
  CallRefusedWhen NotARecord = IsCall settings d × IsRead × BadlyMarked (form_of settings) (laid_in settings d)
  CallRefusedWhen NotASheet = NoCall settings d
  CallRefusedWhen (Dropped p) = IsCall settings d × Drops (edition_of settings) t p

  abbrev CallWhen : Outcome → Type 0
  CallWhen (line x) = HasLine
  CallWhen (refused r) = CallRefusedWhen r

  -- ---- what is given stands in the table

  by_template_lem : IsCall settings d → (r : Refusal) → RefusedWhen (edition_of settings) t r → CallRefusedWhen r
  by_template_lem c TemplateTooLong w = (c, w)
  by_template_lem c TemplateNotUtf8 w = (c, w)
  by_template_lem c Failure w = (c, w)
  by_template_lem c NoMessage w = (c, w)
  by_template_lem c TooManySegments w = (c, w)
  by_template_lem c TooDeep w = (c, w)
  by_template_lem c TooWide w = (c, w)
  by_template_lem c TooManyF w = (c, w)
  by_template_lem c HalfEscape w = (c, w)
  by_template_lem c FieldTooLong w = absurd w
  by_template_lem c FieldNotUtf8 w = absurd w
  by_template_lem c (LineTooLong n) w = absurd w
  by_template_lem c NotARecord w = absurd w
  by_template_lem c NotASheet w = absurd w
  by_template_lem c (Dropped p) w = (c, w)

  by_record : IsCall settings d → IsRead → (r : Refusal) → RecordRefusedWhen (form_of settings) (laid_in settings d) r → CallRefusedWhen r
  by_record c a FieldTooLong w = (c, a, w)
  by_record c a FieldNotUtf8 w = (c, a, w)
  by_record c a NotARecord w = (c, a, w)
  by_record c a TemplateTooLong w = absurd w
  by_record c a TemplateNotUtf8 w = absurd w
  by_record c a Failure w = absurd w
  by_record c a NoMessage w = absurd w
  by_record c a TooManySegments w = absurd w
  by_record c a TooDeep w = absurd w
  by_record c a TooWide w = absurd w
  by_record c a TooManyF w = absurd w
  by_record c a HalfEscape w = absurd w
  by_record c a (LineTooLong n) w = absurd w
  by_record c a NotASheet w = absurd w
  by_record c a (Dropped p) w = absurd w

  in_room_lem : HasLine → (x : List ℕ) → CallWhen (in_room room x)
  unfolding in_room
  in_room_lem a x = by (leb (length x) room)
    where
      by : (b : Bool) → CallWhen (elim b [ true ↦ line x | false ↦ refused (LineTooLong (length x)) ])
      by true = a
      by false = a

  checked : IsCall settings d → (s : LogSegments) → read_by (edition_of settings) t ≡ read s → (m : Maybe Refusal) → record_refusal (form_of settings) (laid_in settings d) ≡ m
      → CallWhen (passed (settings_of settings) t s (laid_in settings d) room m)
  unfolding passed
  checked c s e none k = in_room_lem (s, record { call = c; template = e; passes = (passes_when (form_of settings) (laid_in settings d)).0 k }) _
  checked c s e (some r) k = by_record c (s, (accepted (edition_of settings) t s).0 e) r (records.refused_when (form_of settings) (laid_in settings d) r k)

  tried : IsCall settings d → (x : Template) → read_by (edition_of settings) t ≡ x → CallWhen (by_template (form_of settings) (settings_of settings) t (laid_in settings d) room x)
  unfolding by_template record_outcome
  tried c (read s) e = checked c s e (record_refusal (form_of settings) (laid_in settings d)) refl
  tried c (refusal r) e = by_template_lem c r (refused_when (edition_of settings) t r e)

  no_call : (b : Bool) → ltb settings 32 ≡ b → (b && right_size (form_of settings) d) ≡ false → NoCall settings d
  no_call true e k = inr k
  no_call false e k = inl (ltb-false settings 32 e)

  call_when : CallWhen (call_outcome settings t d room)
  unfolding call_outcome is_call is_known outcome
  call_when = by (is_call settings d) refl
    where
      by : (b : Bool) → is_call settings d ≡ b
          → CallWhen (elim b [ true ↦ outcome (form_of settings) (edition_of settings) (settings_of settings) t (laid_in settings d) room | false ↦ refused NotASheet ])
      by true e = let c = both_true (ltb settings 32) (right_size (form_of settings) d) e in tried (ltb-true settings 32 c.0, c.1) (read_by (edition_of settings) t) refl
      by false e = no_call (ltb settings 32) refl e

  -- ---- and nothing else does

  known : settings < 32 → is_known settings ≡ true
  unfolding is_known
  known h = lt-ltb settings 32 h

  unknown : 32 ≤ settings → is_known settings ≡ false
  unfolding is_known
  unknown h = le-ltb settings 32 h

  called : IsCall settings d → call_outcome settings t d room ≡ outcome (form_of settings) (edition_of settings) (settings_of settings) t (laid_in settings d) room
  called c = sym (is_call_lem settings t d room (known c.0) c.1)

  pub accepted_call : (s : LogSegments) → AcceptedCall t settings d s → call_outcome settings t d room ≡ in_room room (call_line t settings d s)
  accepted_call s a =
      called a.call
      ∙ sym (read_outcome (form_of settings) (edition_of settings) (settings_of settings) t (laid_in settings d) room s a.template)
      ∙ passed_outcome (form_of settings) (settings_of settings) t s (laid_in settings d) room ((passes_when (form_of settings) (laid_in settings d)).1 a.passes)

  template_refused : (r : Refusal) → IsCall settings d → RefusedWhen (edition_of settings) t r → call_outcome settings t d room ≡ refused r
  template_refused r c w = called c ∙ sym (unread_outcome (form_of settings) (edition_of settings) (settings_of settings) t (laid_in settings d) room r (only_refused (edition_of settings) t r w))

  record_refused_lem : (r : Refusal) → IsCall settings d → IsRead → RecordRefusedWhen (form_of settings) (laid_in settings d) r → call_outcome settings t d room ≡ refused r
  record_refused_lem r c a w =
      called c
      ∙ sym (read_outcome (form_of settings) (edition_of settings) (settings_of settings) t (laid_in settings d) room a.0 ((accepted (edition_of settings) t a.0).1 a.1))
      ∙ refused_outcome (form_of settings) (settings_of settings) t a.0 (laid_in settings d) room r (records.only_refused (form_of settings) (laid_in settings d) r w)

  not_called : NoCall settings d → call_outcome settings t d room ≡ refused NotASheet
  not_called (inl h) = sym (unknown_bit settings t d room (unknown h))
  not_called (inr e) = by (is_known settings) refl
    where
      by : (b : Bool) → is_known settings ≡ b → call_outcome settings t d room ≡ refused NotASheet
      by true k = sym (wrong_size settings t d room k e)
      by false k = sym (unknown_bit settings t d room k)

  -- ---- the numbers

  is : (r : Refusal) → Alone r → (CallRefusedWhen r → call_outcome settings t d room ≡ refused r)
      → (number_of (call_outcome settings t d room) ≡ number r) ↔ CallRefusedWhen r
  is r h only = numbered CallWhen (call_outcome settings t d room) call_when number_of (refused r) (refused_of (call_outcome settings t d room) r h) only

  -- a line, or one that is too long, is that of an accepted call
  pub has_line_lem : number_of (call_outcome settings t d room) ≡ 0 → HasLine
  has_line_lem e = let x = line_of (call_outcome settings t d room) e in subst CallWhen x.1 call_when

  has_long_line : number_of (call_outcome settings t d room) ≡ 13 → HasLine
  has_long_line e = subst CallWhen (too_long_of (call_outcome settings t d room) e) call_when

  is_0 : number_of (call_outcome settings t d room) ≡ 0 ↔ ((s : LogSegments) × AcceptedCall t settings d s × (length (call_line t settings d s) ≤ room))
  is_0 = (
    (λ e. let a = has_line_lem e in (a.0, a.1, (room_line room _).0 (ap number_of (sym (accepted_call a.0 a.1)) ∙ e))),
    (λ w. ap number_of (accepted_call w.0 w.1) ∙ (room_line room _).1 w.2),
  )

  is_13 : number_of (call_outcome settings t d room) ≡ 13 ↔ ((s : LogSegments) × AcceptedCall t settings d s × (room < length (call_line t settings d s)))
  is_13 = (
    (λ e. let a = has_long_line e in (a.0, a.1, (room_none room _).0 (ap number_of (sym (accepted_call a.0 a.1)) ∙ e))),
    (λ w. ap number_of (accepted_call w.0 w.1) ∙ (room_none room _).1 w.2),
  )

  -- what is dropped
  drops : number_of (call_outcome settings t d room) ≡ 17 → IsCall settings d × ((p : ℕ) × Drops (edition_of settings) t p)
  drops e = let w = subst CallWhen (dropped_of (call_outcome settings t d room) e) call_when in (w.0, (_, w.1))

  dropped_call : IsCall settings d → (p : ℕ) → Drops (edition_of settings) t p → call_outcome settings t d room ≡ refused (Dropped p)
  dropped_call c p w = template_refused (Dropped p) c w

-- ---- the demand

pub call_demand1 : (t : List ℕ) (settings : ℕ) (d lent : List ℕ) → CallDemand1 t settings d lent
call_demand1 t settings d lent =
    let by = is t settings d (length lent) in
    let temp = template_refused t settings d (length lent) in
    let rec = record_refused_lem t settings d (length lent) in
    record {
      is_15 = by NotASheet (omega arith) (not_called t settings d (length lent));
      is_1 = by TemplateTooLong (omega arith) (λ w. temp TemplateTooLong w.0 w.1);
      is_2 = by TemplateNotUtf8 (omega arith) (λ w. temp TemplateNotUtf8 w.0 w.1);
      is_3 = by Failure (omega arith) (λ w. temp Failure w.0 w.1);
      is_5 = by TooManySegments (omega arith) (λ w. temp TooManySegments w.0 w.1);
      is_6 = by TooDeep (omega arith) (λ w. temp TooDeep w.0 w.1);
      is_7 = by TooWide (omega arith) (λ w. temp TooWide w.0 w.1);
      is_8 = by TooManyF (omega arith) (λ w. temp TooManyF w.0 w.1);
      is_9 = by HalfEscape (omega arith) (λ w. temp HalfEscape w.0 w.1);
      never_10 = never_ten (line_entry t settings d lent);
      is_4 = by NoMessage (omega arith) (λ w. temp NoMessage w.0 w.1);
      is_17 = (drops t settings d (length lent), λ w. ap number_of (dropped_call t settings d (length lent) w.0 w.1.0 w.1.1));
      place = λ c p w left answer m.
          length_told (line_entry t settings d lent) lent left answer m
          ∙ ap length_of (dropped_call t settings d (length lent) c p w)
          ∙ dropped_told p;
      is_14 = by NotARecord (omega arith) (λ w. rec NotARecord w.0 w.1 w.2);
      is_11 = by FieldTooLong (omega arith) (λ w. rec FieldTooLong w.0 w.1 w.2);
      is_12 = by FieldNotUtf8 (omega arith) (λ w. rec FieldNotUtf8 w.0 w.1 w.2);
      is_13 = is_13 t settings d (length lent);
      needed = λ s a left answer m.
          length_told (line_entry t settings d lent) lent left answer m
          ∙ ap length_of (accepted_call t settings d (length lent) s a)
          ∙ room_length (length lent) (call_line t settings d s);
      is_0 = is_0 t settings d (length lent);
      returns = returns (line_entry t settings d lent) lent;
    }
