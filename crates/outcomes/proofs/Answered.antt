-- Outcomes: what the code's answer tells of one, and that a line stays the same in any room that holds it. Assumes nothing.
use mathlib.Core.Path.{◌≡◌, refl, ap, sym, subst, ◌∙◌}
use mathlib.Core.Bool.{Bool, true, false}
use mathlib.Core.List.{List, [], ◌∷◌, ◌++◌, append-nil}
use Prim.Native.Nat.{ℕ, ◌+◌, ◌-◌, ◌≤◌, ◌<◌}
use native.Mathlib.Nat.{zero-add}
use native.Mathlib.Omega.{arith}
use lib.Dec.{leb}
use lib.ListN.{length, take, drop, length-append, length-drop, drop_of_length-le}
use lib.Seq.{take_all, drop-drop}
use borrow.Author.Tests.{leb-true, le-leb, lt-leb}
use Rattle.buffer.specs.Buffer.{put_at}
use Rattle.buffer.specs.Bytes.{part}
use Rattle.buffer.specs.Table.{Maybe, none, some}
use Rattle.buffer.proofs.Parts.{part_length}
use Rattle.buffer.proofs.Writing.{join}
use Rattle.refusals.specs.declared.Refusal.{Refusal}
use Rattle.colour.specs.declared.Settings.{Settings}
use Rattle.segments.specs.Segments.{LogSegments}
use Rattle.record.specs.declared.Form.{Form}
use Rattle.record.specs.Layout.{Laid, right_size, laid_out}
use Rattle.checks.specs.Checks.{record_refusal}
use Rattle.record.specs.Contents.{record_of}
use Rattle.fields.specs.Lines.{line_of}
use Rattle.std.specs.Prelude.{Ok, Err}
use Rattle.answer.specs.Answers.{Outcome, line, refused, in_room, passed, record_outcome, answer_of, buffer_after}
use Rattle.answer.specs.Maker.{Maker}
use Rattle.answer.specs.Rooms.{segments_of, outcome_by}
use Rattle.outcomes.proofs.Refusals.{refusal_most}
use Rattle.outcomes.specs.Program.{line_room, outcome_line, refusal_line, session_text, fitting, session_outcome}

-- ---- what an answer tells

-- a line of k bytes
pub record Lined (o : Outcome) (k : ℕ) : Type 0 where
  pub text : List ℕ
  pub is : o ≡ line text
  pub long : length text ≡ k

pub lined : (o : Outcome) (k : ℕ) → Ok k ≡ answer_of o → Lined o k
unfolding answer_of
lined (line s) k e = record { text = s; is = refl; long = cc }
lined (refused r) k e = let z : ◌≡◌ {A = ℕ} 0 1 = cc in absurd (omega (arith, z))

pub refused_by : (o : Outcome) (r : Refusal) → Err r ≡ answer_of o → o ≡ refused r
unfolding answer_of
refused_by (line s) r e = let z : ◌≡◌ {A = ℕ} 0 1 = cc in absurd (omega (arith, z))
refused_by (refused q) r e = cc

-- ---- what is written for one

pub line_shown : (o : Outcome) (s : List ℕ) → o ≡ line s → outcome_line o ≡ s ++ 10 ∷ []
unfolding outcome_line
line_shown o s e = ap outcome_line e

pub refusal_shown : (o : Outcome) (r : Refusal) → o ≡ refused r → outcome_line o ≡ refusal_line r
unfolding outcome_line
refusal_shown o r e = ap outcome_line e

pub line_length : (o : Outcome) (s : List ℕ) → o ≡ line s → length (outcome_line o) ≡ length s + 1
line_length o s e = ap length (line_shown o s e) ∙ length-append s (10 ∷ [])

pub line_left : (d : List ℕ) (o : Outcome) (s : List ℕ) → o ≡ line s → buffer_after d o ≡ put_at d 0 s
unfolding buffer_after
line_left d o s e = ap (buffer_after d) e

-- ---- room

pub held : (room : ℕ) (s : List ℕ) → length s ≤ room → in_room room s ≡ line s
unfolding in_room
held room s h = rw (le-leb (length s) room h, in_room)

pub not_held : (room : ℕ) (s : List ℕ) → room < length s → in_room room s ≡ refused (Refusal.LineTooLong (length s))
unfolding in_room
not_held room s h = rw (lt-leb (length s) room h, in_room)

by_test : (b : Bool) (s x : List ℕ) → elim b [ true ↦ line s | false ↦ refused (Refusal.LineTooLong (length s)) ] ≡ line x → (b ≡ true) × (s ≡ x)
by_test true s x e = (refl, cc)
by_test false s x e = let z : ◌≡◌ {A = ℕ} 0 1 = cc in absurd (omega (arith, z))

-- a line that was held is the whole line
pub was_held : (room : ℕ) (s x : List ℕ) → in_room room s ≡ line x → (length x ≤ room) × (s ≡ x)
unfolding in_room
was_held room s x e =
    let t = by_test (leb (length s) room) s x e in
    (subst (λ (y : List ℕ). length y ≤ room) t.1 (leb-true (length s) room t.0), t.1)

module _ (form : Form) (settings : Settings) (t : List ℕ) (s : LogSegments) (d : Laid) (room : ℕ) (x : List ℕ) where
  by_check : (m : Maybe Refusal) → passed settings t s d room m ≡ line x → (length x ≤ room) × ((other : ℕ) → length x ≤ other → passed settings t s d other m ≡ line x)
  unfolding passed
  by_check none e =
      let w = was_held room (line_of settings t s (record_of d)) x e in
      (w.0, λ other h. subst (λ (y : List ℕ). in_room other y ≡ line x) (sym w.1) (held other x h))
  by_check (some r) e = let z : ◌≡◌ {A = ℕ} 0 1 = cc in absurd (omega (arith, z))

  record_fits : record_outcome form settings t s d room ≡ line x → length x ≤ room
  unfolding record_outcome
  record_fits e = (by_check (record_refusal form d) e).0

  record_again : (other : ℕ) → record_outcome form settings t s d room ≡ line x → length x ≤ other → record_outcome form settings t s d other ≡ line x
  unfolding record_outcome
  record_again other e h = (by_check (record_refusal form d) e).1 other h

module _ (r : Maker) (d : List ℕ) (room : ℕ) (x : List ℕ) where
  by_size : (b : Bool) → elim b [ true ↦ record_outcome r.form r.settings r.template (segments_of r) (laid_out r.form d) room | false ↦ refused Refusal.NotASheet ] ≡ line x
      → (length x ≤ room)
      × ((other : ℕ) → length x ≤ other → elim b [ true ↦ record_outcome r.form r.settings r.template (segments_of r) (laid_out r.form d) other | false ↦ refused Refusal.NotASheet ] ≡ line x)
  by_size true e = (
    record_fits r.form r.settings r.template (segments_of r) (laid_out r.form d) room x e,
    λ other h. record_again r.form r.settings r.template (segments_of r) (laid_out r.form d) room x other e h,
  )
  by_size false e = let z : ◌≡◌ {A = ℕ} 0 1 = cc in absurd (omega (arith, z))

  pub line_fits : outcome_by r d room ≡ line x → length x ≤ room
  unfolding outcome_by
  line_fits e = (by_size (right_size r.form d) e).0

  pub line_again : (other : ℕ) → outcome_by r d room ≡ line x → length x ≤ other → outcome_by r d other ≡ line x
  unfolding outcome_by
  line_again other e h = (by_size (right_size r.form d) e).1 other h

-- ---- a record that was measured

-- what is written at the front of a part's rest is written into the whole
part_written : (d x : List ℕ) (at : ℕ) → at + length x ≤ length d
    → take at d ++ (put_at (part at (length d) d) 0 x ++ drop (length d - at) (drop at d)) ≡ put_at d at x
unfolding put_at
part_written d x at h =
    let p = drop at d in
    let n : length p ≤ length d - at = omega (arith, length-drop at d) in
    ap (λ (l : List ℕ). take at d ++ ((x ++ drop (0 + length x) l) ++ drop (length d - at) p)) (take_all (length d - at) p n)
    ∙ ap (λ (k : ℕ). take at d ++ ((x ++ drop k p) ++ drop (length d - at) p)) (zero-add (length x))
    ∙ ap (λ (l : List ℕ). take at d ++ ((x ++ drop (length x) p) ++ l)) (drop_of_length-le p n)
    ∙ ap (λ (l : List ℕ). take at d ++ l) (append-nil (x ++ drop (length x) p))
    ∙ ap (λ (l : List ℕ). take at d ++ (x ++ l)) (drop-drop (length x) at d)

module _ (r : Maker) (d : List ℕ) (k : ℕ) (e : Ok k ≡ answer_of (outcome_by r d line_room)) where
  abbrev its : Outcome
  its = outcome_by r d line_room

  abbrev told : Lined (outcome_by r d line_room) k
  told = lined (outcome_by r d line_room) k e

  pub measured : (length (outcome_line (outcome_by r d line_room)) ≡ k + 1) × (k ≤ 65536)
  measured =
      let f = line_fits r d line_room told.text told.is in
      (omega (arith, line_length its told.text told.is, told.long), omega (arith, f, told.long))

  -- the line, then the newline after it
  pub line_written : (out mid out' : List ℕ) (at : ℕ) → at + length (outcome_line (outcome_by r d line_room)) ≤ length out
      → mid ≡ buffer_after (part at (length out) out) (outcome_by r d (length (part at (length out) out)))
      → out' ≡ put_at (take at out ++ (mid ++ drop (length out - at) (drop at out))) (at + k) (10 ∷ [])
      → out' ≡ put_at out at (outcome_line (outcome_by r d line_room))
  line_written out mid out' at h f g =
      let x = told.text in
      let long = told.long in
      let m = measured in
      let p = part at (length out) out in
      let room : length x ≤ length p = omega (arith, part_length out at (length out) (omega arith) (omega arith)) in
      let again = line_again r d line_room x (length p) told.is room in
      let front : mid ≡ put_at p 0 x = f ∙ line_left p (outcome_by r d (length p)) x again in
      let whole = ap (λ (l : List ℕ). take at out ++ (l ++ drop (length out - at) (drop at out))) front ∙ part_written out x at (omega arith) in
      join out (take at out ++ (mid ++ drop (length out - at) (drop at out))) out' at (at + k) x (10 ∷ []) whole g (omega arith) (omega arith)
      ∙ ap (put_at out at) (sym (line_shown its x told.is))

-- a record that is refused
module _ (o : Outcome) (r : Refusal) (e : Err r ≡ answer_of o) where
  pub refused_shown : outcome_line o ≡ refusal_line r
  refused_shown = refusal_shown o r (refused_by o r e)

-- ---- no outcome's line is longer than the program's buffer and a newline

most : (o : Outcome) → ((x : List ℕ) → o ≡ line x → length x ≤ 65536) → length (outcome_line o) ≤ 65537
most (line x) h = omega (arith, h x refl, line_length (line x) x refl)
most (refused r) h = omega (arith, refusal_most r, ap length (refusal_shown (refused r) r refl))

pub outcome_most : (r : Maker) (d : List ℕ) → length (outcome_line (outcome_by r d line_room)) ≤ 65537
outcome_most r d = most (outcome_by r d line_room) (λ x e. line_fits r d line_room x e)

-- ---- the answer and the buffer, whether a text fits the room or not

pub answer_fits : (out s : List ℕ) → length s ≤ length out → Ok (length s) ≡ answer_of (in_room (length out) s)
unfolding answer_of
answer_fits out s h = ap answer_of (sym (held (length out) s h))

pub buffer_fits : (out s : List ℕ) → length s ≤ length out → put_at out 0 s ≡ buffer_after out (in_room (length out) s)
unfolding buffer_after
buffer_fits out s h = ap (buffer_after out) (sym (held (length out) s h))

pub answer_over : (out s : List ℕ) → length out < length s → Err (Refusal.LineTooLong (length s)) ≡ answer_of (in_room (length out) s)
unfolding answer_of
answer_over out s h = ap answer_of (sym (not_held (length out) s h))

pub buffer_over : (out s : List ℕ) → length out < length s → out ≡ buffer_after out (in_room (length out) s)
unfolding buffer_after
buffer_over out s h = ap (buffer_after out) (sym (not_held (length out) s h))

-- ---- a session

fitting_line : (room : ℕ) (o : Outcome) (x : List ℕ) → fitting room o ≡ line x → length x ≤ room
unfolding fitting
fitting_line room (line s) x e = (was_held room s x e).0
fitting_line room (refused r) x e = let z : ◌≡◌ {A = ℕ} 0 1 = cc in absurd (omega (arith, z))

pub session_fits : (d : List ℕ) (room : ℕ) (x : List ℕ) → session_outcome d room ≡ line x → length x ≤ room
unfolding session_outcome
session_fits d room x e = fitting_line room (session_text d) x e
