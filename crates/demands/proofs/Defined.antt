-- Demand 2 holds of every line call and of every session call. Assumes nothing.
use Prim.Native.Nat.{ℕ, ◌+◌, ◌≤◌, ◌/◌, ◌%◌}
use mathlib.Core.Path.{◌≡◌, refl, ap, sym, ◌∙◌}
use mathlib.Core.Bool.{Bool, true, false, ◌&&◌}
use mathlib.Core.List.{List, [], ◌∷◌, ◌++◌}
use native.Mathlib.Omega.{arith}
use lib.Dec.{eqb, leb}
use lib.ListN.{length, take, drop}
use Rattle.buffer.proofs.Sameness.{both_true}
use Rattle.buffer.specs.Buffer.{put_at}
use Rattle.buffer.specs.Table.{Maybe, none, some}
use Rattle.buffer.proofs.Writing.{put_take, put_drop}
use Rattle.segments.specs.Segments.{LogSegments}
use Rattle.template.specs.Template.{read, read_by}
use Rattle.record.specs.Layout.{right_size, laid_out}
use Rattle.settings.specs.Bits.{is_known, settings_of, edition_of, form_of}
use Rattle.sheet.specs.Sheets.{Sheet, body_count, contents_end, body_bytes, bodies, is_head, form_in, are_records, are_bodies, is_sheet, all_laid_out, headed, held, sheet_of}
use Rattle.answer.specs.Answers.{Outcome, line, in_room, record_outcome, buffer_after, call_outcome, Meets, line_entry}
use Rattle.answer.proofs.Answering.{is_call_lem, read_outcome}
use Rattle.outcomes.specs.Program.{outcome_line, record_lines, sheet_text, maybe_sheet_text, session_text, fitting, session_outcome, session_entry}
use Rattle.demands.specs.Conditions.{call_line}
use Rattle.demands.specs.Demand1.{number_of, AcceptedSheet}
use Rattle.demands.specs.Demand2.{HoldsAtFront, CallDemand2, call_lines, SheetBodies, SessionDemand2}
use Rattle.demands.proofs.Numbers.{number_told, length_told, length_of, room_line, room_length, room_is}
use Rattle.demands.proofs.Calls.{accepted_call, has_line_lem}
use Rattle.demands.proofs.Sheets.{has_lines}

-- ---- what is told to be written stands at the front of the buffer

front : (x lent : List ℕ) → (n : ℕ) → n ≡ length x → (take n (put_at lent 0 x) ≡ x) × (drop n (put_at lent 0 x) ≡ drop n lent)
front x lent n e = (put_take lent 0 n x (omega (arith, e)) (omega arith), put_drop lent 0 n x (omega (arith, e)) (omega arith))

pub holds : (o : Outcome) (x lent left : List ℕ) (answer : ℕ) → o ≡ in_room (length lent) x → Meets o lent left answer → answer % 256 ≡ 0 → HoldsAtFront x lent left answer
unfolding buffer_after
holds o x lent left answer e m k =
    let h : length x ≤ length lent = (room_line (length lent) x).0 (ap number_of (sym e) ∙ sym (number_told o lent left answer m) ∙ k) in
    let l : answer / 256 ≡ length x = length_told o lent left answer m ∙ ap length_of e ∙ room_length (length lent) x in
    let b : left ≡ put_at lent 0 x = m.buffer ∙ ap (buffer_after lent) (e ∙ room_is (length lent) x h) in
    let f = front x lent (answer / 256) l in
    record {
      front = ap (take (answer / 256)) b ∙ f.0;
      rest = ap (drop (answer / 256)) b ∙ f.1;
      long = l;
      room = h;
    }

-- ---- a line call

pub call_demand2 : (t : List ℕ) (settings : ℕ) (d lent : List ℕ) → CallDemand2 t settings d lent
call_demand2 t settings d lent =
    let o = line_entry t settings d lent in
    let defined = accepted_call t settings d (length lent) in
    record {
      defined = defined;
      only = λ left answer m k.
          let a = has_line_lem t settings d (length lent) (sym (number_told o lent left answer m) ∙ k) in
          (a.0, a.1, holds o (call_line t settings d a.0) lent left answer (defined a.0 a.1) m k);
    }

-- ---- a session's lines are the lines of single calls

-- what is laid out in a sheet
laid : ℕ → List ℕ → List (List ℕ) → Sheet
laid settings t records = record { settings = settings; template = t; records = all_laid_out (form_of settings) records }

module _ (settings : ℕ) (t : List ℕ) (s : LogSegments) (known : is_known settings ≡ true) (e : read_by (edition_of settings) t ≡ read s) where
  one_line : (d : List ℕ) → right_size (form_of settings) d ≡ true → record_outcome (form_of settings) (settings_of settings) t s (laid_out (form_of settings) d) 65536 ≡ call_outcome settings t d 65536
  one_line d h = read_outcome (form_of settings) (edition_of settings) (settings_of settings) t (laid_out (form_of settings) d) 65536 s e ∙ is_call_lem settings t d 65536 known h

  lines : (h : Sheet) → h.settings ≡ settings → h.template ≡ t → (records : List (List ℕ)) → are_records (form_of settings) records ≡ true
      → record_lines h s (all_laid_out (form_of settings) records) ≡ call_lines settings t records
  unfolding record_lines call_lines all_laid_out are_records
  lines h a b [] k = refl
  lines h a b (d ∷ rest) k =
      let c = both_true (right_size (form_of settings) d) (are_records (form_of settings) rest) k in
      λ i. outcome_line (((λ j. record_outcome (form_of (a j)) (settings_of (a j)) (b j) s (laid_out (form_of settings) d) 65536) ∙ one_line d c.0) i) ++ lines h a b rest c.1 i

-- the last test of a sheet
sheet_bodies : (d : List ℕ) → is_sheet d ≡ true → are_bodies (bodies d) ≡ true
unfolding is_sheet
sheet_bodies d h =
    let laid =
    leb (length d) 65536
    && leb 2 (length d)
    && leb 1 (body_count d)
    && leb (contents_end d) (length d)
    && eqb (contents_end d + body_bytes (body_count d) d 2) (length d) in (both_true laid (are_bodies (bodies d)) h).1

module _ (d : List ℕ) where
  sheet_is : is_sheet d ≡ true → sheet_of d ≡ some (held (bodies d))
  unfolding sheet_of
  sheet_is h = rw (h, sheet_of)

  held_is : (settings : ℕ) (t : List ℕ) (records : List (List ℕ)) → bodies d ≡ (settings ∷ t) ∷ records → held (bodies d) ≡ laid settings t records
  unfolding held headed laid
  held_is settings t records e = ap held e

  defined : (settings : ℕ) (t : List ℕ) (records : List (List ℕ)) → SheetBodies d settings t records → session_text d ≡ line (call_lines settings t records)
  unfolding session_text maybe_sheet_text sheet_text laid are_bodies is_head form_in
  defined settings t records w =
      let k = both_true (is_known settings) (are_records (form_of settings) records) (sym (ap are_bodies w.laid) ∙ sheet_bodies d w.sheet) in
      ap maybe_sheet_text (sheet_is w.sheet ∙ ap some (held_is settings t records w.laid))
      ∙ ap (sheet_text (laid settings t records)) w.template
      ∙ ap line (lines settings t w.segments k.0 w.template (laid settings t records) refl refl records k.1)

  -- ---- and where lines are answered, there was such a sheet

  shape : (b : List (List ℕ)) → are_bodies b ≡ true → (settings : ℕ) × (t : List ℕ) × (records : List (List ℕ)) × (b ≡ (settings ∷ t) ∷ records)
  unfolding are_bodies is_head
  shape [] e = let z : ◌≡◌ {A = ℕ} 0 1 = cc in let y : ⊥ = omega (arith, z) in absurd y
  shape ([] ∷ records) e = let z : ◌≡◌ {A = ℕ} 0 1 = cc in let y : ⊥ = omega (arith, z) in absurd y
  shape ((settings ∷ t) ∷ records) e = (settings, t, records, refl)

  some_sheet : (b : Bool) (x h : Sheet) → ◌≡◌ {A = Maybe Sheet} (elim b [ true ↦ some x | false ↦ none ]) (some h) → (b ≡ true) × (x ≡ h)
  some_sheet true x h e = (refl, cc)
  some_sheet false x h e = (cc, cc)

  found : (h : Sheet) (s : LogSegments) → AcceptedSheet d h s → (settings : ℕ) × (t : List ℕ) × (records : List (List ℕ)) × SheetBodies d settings t records
  unfolding sheet_of laid
  found h s a =
      let k = some_sheet (is_sheet d) (held (bodies d)) h a.sheet in
      let b = shape (bodies d) (sheet_bodies d k.0) in
      let e : laid b.0 b.1 b.2 ≡ h = sym (held_is b.0 b.1 b.2 b.3) ∙ k.1 in
      (b.0, b.1, b.2, record { sheet = k.0; laid = b.3; segments = s; template = ap (λ (x : Sheet). read_by (edition_of x.settings) x.template) e ∙ a.template })

pub session_demand2 : (d lent : List ℕ) → SessionDemand2 d lent
unfolding session_outcome fitting
session_demand2 d lent =
    let o = session_entry d lent in
    record {
      defined = defined d;
      only = λ left answer m k.
          let a = has_lines d (length lent) (sym (number_told o lent left answer m) ∙ k) in
          let w = found d a.0 a.1 a.2 in
          let e : o ≡ in_room (length lent) (call_lines w.0 w.1 w.2) = ap (fitting (length lent)) (defined d w.0 w.1 w.2 w.3) in
          (w.0, w.1, w.2, w.3, holds o (call_lines w.0 w.1 w.2) lent left answer e m k);
    }
