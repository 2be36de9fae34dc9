-- `SpecifierDemand` and `FormDemand` hold. Assumes nothing.
use Prim.Native.Nat.{ℕ, suc, ◌+◌, ◌-◌, ◌*◌, ◌/◌, ◌%◌, ◌≤◌, ◌<◌}
use mathlib.Core.Path.{◌≡◌, refl, ap, sym, ◌∙◌}
use mathlib.Core.Bool.{Bool, true, false, ◌||◌}
use mathlib.Core.List.{List, [], ◌∷◌, ◌++◌}
use mathlib.Core.Logic.{◌≢◌}
use native.Mathlib.Omega.{arith}
use lib.Dec.{eqb, ltb}
use lib.ListN.{length, get_or, take, drop, length-append, length-drop}
use lib.Seq.{length-take-le, take_at, get_or-take, get_or_at, get_or-append-add, drop-append-add, drop-drop}
use borrow.Author.Tests.{le-ltb, lt-ltb, eq-eqb, ne_eqb}
use Rattle.buffer.specs.Bytes.{bytes, part, same}
use Rattle.buffer.specs.Table.{Maybe, none, some, Entry, ◌means◌, lookup}
use Rattle.buffer.proofs.Sameness.{same→≡}
use Rattle.buffer.proofs.Tables.{lookup_on, lookup_none}
use Rattle.refusals.specs.declared.Refusal.{Refusal}
use Rattle.widths.specs.declared.Rule.{Rule}
use Rattle.colour.specs.declared.Settings.{Settings}
use Rattle.words.specs.declared.LogMetadata.{LogMetadata}
use Rattle.words.specs.declared.LogMetadata.TheVariants.{HeadSerial}
use Rattle.words.specs.Words.{stands_for, or_repeated_f, specifier_of}
use Rattle.record.specs.declared.Form.{Form}
use Rattle.record.specs.Records.{Given, Record, absent, given}
use Rattle.record.specs.Layout.{little_endian, u16, u32, Laid, texts, file_end, module_end, timestamp_end, message_end, serial_end, right_size, laid_out}
use Rattle.record.specs.Contents.{has_serial, given_if, record_of}
use Rattle.record.proofs.Sizes.{right_size_lem, long_enough}
use Rattle.checks.specs.Checks.{host_without_level, bad_numbers, absent_field, badly_marked, fields_refusal, record_refusal}
use Rattle.checks.proofs.Passing.{passes}
use Rattle.fields.specs.Texts.{no_head, or_placeholder, there, wording}
use Rattle.settings.specs.Bits.{is_known, rule_of, settings_of, edition_of, form_of}
use Rattle.template.specs.declared.Edition.{Edition}
use Rattle.template.specs.Template.{Template, read, refusal, read_by}
use Rattle.answer.specs.Answers.{passed, record_outcome, by_template, outcome, call_outcome}
use Rattle.answer.proofs.Answering.{is_call_lem}
use Rattle.demands.specs.HeadDemand.{first_specifiers, first_specifier_of, SpecifierDemand, renewed, FormDemand}

-- ---- the specifier

-- a line at the end of a table says nothing of other words
past_last : (x : Entry LogMetadata) (l : List (Entry LogMetadata)) (w : List ℕ) → same x.word w ≡ false → lookup (l ++ x ∷ []) w ≡ lookup l w
unfolding lookup
past_last x [] w e = lookup_on x [] w e ∙ lookup_none w
past_last x (a ∷ l) w e =
    ap (λ (m : Maybe LogMetadata). elim (same a.word w) as (λ _. Maybe LogMetadata) [ true ↦ some a.value | false ↦ m ]) (past_last x l w e)

other : (w : List ℕ) → w ≢ bytes "d" → same (bytes "d") w ≡ false
other w h = by (same (bytes "d") w) refl
  where
    by : (b : Bool) → same (bytes "d") w ≡ b → same (bytes "d") w ≡ false
    by true e = absurd (h (sym (same→≡ (bytes "d") w e)))
    by false e = e

others : (w : List ℕ) → w ≢ bytes "d" → specifier_of w ≡ first_specifier_of w
unfolding specifier_of first_specifier_of
others w h = ap (or_repeated_f w) (past_last ("d" means HeadSerial) first_specifiers w (other w h))

named : specifier_of (bytes "d") ≡ stands_for HeadSerial
unfolding specifier_of or_repeated_f lookup same
named = refl

absent_shown : (r : Record) → r.serial ≡ absent → wording r HeadSerial ≡ bytes "<head>"
unfolding wording there or_placeholder
absent_shown r e = ap (λ (x : Given). or_placeholder no_head (there some x)) e

given_shown : (r : Record) (t : List ℕ) → r.serial ≡ given t → wording r HeadSerial ≡ t
unfolding wording there or_placeholder
given_shown r t e = ap (λ (x : Given). or_placeholder no_head (there some x)) e

pub specifier_demand : SpecifierDemand
specifier_demand = record {
  named = named;
  others = others;
  width = refl;
  absent_shown = absent_shown;
  given_shown = given_shown;
}

-- ---- a record laid out anew

module _ (d : List ℕ) (fits : 15 ≤ length d) where
  abbrev head : List ℕ
  head = take 15 d

  abbrev rest : List ℕ
  rest = 0 ∷ 0 ∷ drop 15 d

  long : length head ≡ 15
  long = length-take-le 15 d fits

  -- the numbers that both forms share stand where they stood
  in_front : (i : ℕ) → i < 15 → get_or (renewed d) i 0 ≡ get_or d i 0
  in_front i h = sym (get_or-take 15 (renewed d) i 0 h) ∙ ap (λ (l : List ℕ). get_or l i 0) (take_at head rest 15 long) ∙ get_or-take 15 d i 0 h

  -- the texts stand two places later
  behind : (i : ℕ) → 15 ≤ i → drop (i + 2) (renewed d) ≡ drop i d
  behind i h =
      let n = i - 15 in
      let p : i + 2 ≡ length head + suc (suc n) = omega (arith, long, h) in
      let q : 15 + n ≡ i = omega (arith, h) in
      ap (λ (k : ℕ). drop k (renewed d)) p ∙ drop-append-add head rest (suc (suc n)) ∙ drop-drop n 15 d ∙ ap (λ (k : ℕ). drop k d) q

  moved : (i e : ℕ) → 15 ≤ i → part (i + 2) (e + 2) (renewed d) ≡ part i e d
  moved i e h =
      let p : (e + 2) - (i + 2) ≡ e - i = omega arith in
      λ k. take (p k) (behind i h k)

  -- a part whose ends are known
  moved_by : (i e i' e' : ℕ) → i' ≡ i + 2 → e' ≡ e + 2 → 15 ≤ i → part i' e' (renewed d) ≡ part i e d
  moved_by i e i' e' p q h = (λ k. part (p k) (q k) (renewed d)) ∙ moved i e h

  two : (i : ℕ) → i + 1 < 15 → u16 (renewed d) i ≡ u16 d i
  unfolding little_endian
  two i h = λ k. in_front i (omega (arith, h)) k + 256 * (in_front (i + 1) h k + 256 * 0)

  four : u32 (renewed d) 3 ≡ u32 d 3
  unfolding little_endian
  four = λ k.
      in_front 3 (omega arith) k + 256 * (in_front 4 (omega arith) k + 256 * (in_front 5 (omega arith) k + 256 * (in_front 6 (omega arith) k + 256 * 0)))

  no_serial : u16 (renewed d) 15 ≡ 0
  unfolding little_endian
  no_serial =
      let a : get_or (renewed d) 15 0 ≡ 0 = get_or_at head 0 (0 ∷ drop 15 d) 0 15 long in
      let b : get_or (renewed d) 16 0 ≡ 0 = ap (λ (k : ℕ). get_or (renewed d) (k + 1) 0) (sym long) ∙ get_or-append-add head rest 1 0 in
      omega (arith, a, b)

  longer : length (renewed d) ≡ length d + 2
  longer = omega (arith, length-append head rest, length-drop 15 d, long, fits)

  file_to : file_end Form.New (renewed d) ≡ file_end Form.Old d + 2
  file_to = omega (arith, two 7 (omega arith))

  module_to : module_end Form.New (renewed d) ≡ module_end Form.Old d + 2
  module_to = omega (arith, file_to, two 9 (omega arith))

  timestamp_to : timestamp_end Form.New (renewed d) ≡ timestamp_end Form.Old d + 2
  timestamp_to = omega (arith, module_to, two 11 (omega arith))

  message_to : message_end Form.New (renewed d) ≡ message_end Form.Old d + 2
  message_to = omega (arith, timestamp_to, two 13 (omega arith))

  serial_to : serial_end Form.New (renewed d) ≡ serial_end Form.Old d + 2
  serial_to = omega (arith, message_to, no_serial)

  same_record : laid_out Form.New (renewed d) ≡ laid_out Form.Old d
  unfolding laid_out
  same_record = λ k. record {
    source = in_front 0 (omega arith) k;
    level = in_front 1 (omega arith) k;
    mask = in_front 2 (omega arith) k;
    line = four k;
    file = moved_by 15 (file_end Form.Old d) 17 (file_end Form.New (renewed d)) refl file_to (omega arith) k;
    module_path = moved_by (file_end Form.Old d) (module_end Form.Old d) _ _ file_to module_to (omega arith) k;
    timestamp = moved_by (module_end Form.Old d) (timestamp_end Form.Old d) _ _ module_to timestamp_to (omega arith) k;
    message = moved_by (timestamp_end Form.Old d) (message_end Form.Old d) _ _ timestamp_to message_to (omega arith) k;
    serial = moved_by (message_end Form.Old d) (serial_end Form.Old d) _ _ message_to serial_to (omega arith) k;
  }

-- ---- its answer

-- a mask below 8 is within the most of either form
same_refusal : (l : Laid) → l.mask < 8 → record_refusal Form.New l ≡ record_refusal Form.Old l
unfolding record_refusal badly_marked bad_numbers
same_refusal l h =
    ap
    (λ (b : Bool).
    elim (ltb 1 l.source || ltb 5 l.level || host_without_level l.source l.level || b || absent_field l) as (λ _. Maybe Refusal) [
      | true ↦ some Refusal.NotARecord
      | false ↦ fields_refusal l
    ])
    (le-ltb 15 l.mask (omega (arith, h)) ∙ sym (le-ltb 7 l.mask (omega (arith, h))))

same_by : (s : Settings) (t : List ℕ) (l : Laid) (room : ℕ) → l.mask < 8 → (x : Template) → by_template Form.New s t l room x ≡ by_template Form.Old s t l room x
unfolding by_template record_outcome
same_by s t l room h (read c) = ap (passed s t c l room) (same_refusal l h)
same_by s t l room h (refusal r) = refl

same_outcome : (e : Edition) (s : Settings) (t : List ℕ) (l : Laid) (room : ℕ) → l.mask < 8 → outcome Form.New e s t l room ≡ outcome Form.Old e s t l room
unfolding outcome
same_outcome e s t l room h = same_by s t l room h (read_by e t)

even : (n k : ℕ) → (n + 2 * k) % 2 ≡ n % 2
even n k = omega arith

-- bit 8 alone is set
module _ (settings : ℕ) (g : settings < 32) (h : settings % 16 < 8) where
  new_form : form_of (settings + 8) ≡ Form.New
  unfolding form_of
  new_form = rw (eq-eqb ((settings + 8) / 8 % 2) 1 (omega (arith, h)), form_of)

  old_form : form_of settings ≡ Form.Old
  unfolding form_of
  old_form = rw (ne_eqb (settings / 8 % 2) 1 (λ e. omega (arith, h, e)), form_of)

  same_rule : rule_of (settings + 8) ≡ rule_of settings
  unfolding rule_of
  same_rule =
      let q : (settings + 8) / 16 ≡ settings / 16 = omega (arith, h) in
      ap (λ (n : ℕ). elim (eqb (n % 2) 1) as (λ _. Rule) [ true ↦ Rule.Places | false ↦ Rule.Characters ]) q

  same_settings : settings_of (settings + 8) ≡ settings_of settings
  unfolding settings_of
  same_settings =
      let p : (settings + 8) % 2 ≡ settings % 2 = even settings 4 in
      let q : (settings + 8) / 2 ≡ settings / 2 + 4 = omega arith in
      let r : (settings + 8) / 2 % 2 ≡ settings / 2 % 2 = ap (λ (n : ℕ). n % 2) q ∙ even (settings / 2) 2 in
      λ k. record { colour = eqb (p k) 1; straight = eqb (r k) 1; rule = same_rule k }

  same_edition : edition_of (settings + 8) ≡ edition_of settings
  unfolding edition_of
  same_edition =
      let q : (settings + 8) / 4 ≡ settings / 4 + 2 = omega arith in
      let r : (settings + 8) / 4 % 2 ≡ settings / 4 % 2 = ap (λ (n : ℕ). n % 2) q ∙ even (settings / 4) 1 in
      ap (λ (n : ℕ). elim (eqb n 1) as (λ _. Edition) [ true ↦ Edition.Strict | false ↦ Edition.First ]) r

  known : (is_known (settings + 8) ≡ true) × (is_known settings ≡ true)
  unfolding is_known
  known = (lt-ltb (settings + 8) 32 (omega (arith, g, h)), lt-ltb settings 32 g)

-- ---- the demand

module _ (d : List ℕ) where
  old_empty : (laid_out Form.Old d).serial ≡ []
  unfolding laid_out
  old_empty = let p : (message_end Form.Old d + 0) - message_end Form.Old d ≡ 0 = omega arith in ap (λ (n : ℕ). take n (drop (message_end Form.Old d) d)) p

  old_absent : record_refusal Form.Old (laid_out Form.Old d) ≡ none → (record_of (laid_out Form.Old d)).serial ≡ absent
  unfolding record_of has_serial given_if
  old_absent e =
      let l = laid_out Form.Old d in
      let m = (passes Form.Old l e).mask in
      ap (λ (b : Bool). given_if b l.serial) (ne_eqb (l.mask / 8 % 2) 1 (λ q. omega (arith, m, q)))

  module _ (e : right_size Form.Old d ≡ true) where
    sized : (15 ≤ length d) × (serial_end Form.Old d ≡ length d)
    sized = right_size_lem Form.Old d e

    apart : (b : Bool) → right_size Form.New d ≡ b → right_size Form.New d ≡ false
    apart true f = absurd (let z : ⊥ = omega (arith, sized.1, (right_size_lem Form.New d f).1) in z)
    apart false f = f

    same_size : right_size Form.New (renewed d) ≡ true
    same_size =
        let n = longer d sized.0 in
        long_enough Form.New (renewed d) (omega (arith, n, sized.0))
        ∙ eq-eqb (serial_end Form.New (renewed d)) (length (renewed d)) (omega (arith, n, serial_to d sized.0, sized.1))

    same_answer : (settings : ℕ) → settings < 32 → settings % 16 < 8 → (laid_out Form.Old d).mask < 8 → (t : List ℕ) (room : ℕ)
        → call_outcome (settings + 8) t (renewed d) room ≡ call_outcome settings t d room
    same_answer settings o8 h g t room =
        let l = laid_out Form.Old d in
        let f = new_form settings o8 h in
        let o = old_form settings o8 h in
        let edition = same_edition settings o8 h in
        let set = same_settings settings o8 h in
        let same = same_record d sized.0 in
        sym (is_call_lem (settings + 8) t (renewed d) room (known settings o8 h).0 (ap (λ (x : Form). right_size x (renewed d)) f ∙ same_size))
        ∙ (λ k. outcome (f k) (edition k) (set k) t (laid_out (f k) (renewed d)) room)
        ∙ ap (λ (x : Laid). outcome Form.New (edition_of settings) (settings_of settings) t x room) same
        ∙ same_outcome (edition_of settings) (settings_of settings) t l room g
        ∙ (λ k. outcome (sym o k) (edition_of settings) (settings_of settings) t (laid_out (sym o k) d) room)
        ∙ is_call_lem settings t d room (known settings o8 h).1 (ap (λ (x : Form). right_size x d) o ∙ e)

  pub form_demand : FormDemand d
  form_demand = record {
    old_empty = old_empty;
    old_absent = old_absent;
    apart = λ e. apart e (right_size Form.New d) refl;
    same_size = same_size;
    same_record = λ e. same_record d (sized e).0;
    same_answer = same_answer;
  }
