-- Demand 1 holds of every sheet and of every session call. Assumes nothing.
use Prim.Native.Nat.{ℕ, ◌+◌, ◌≤◌, ◌<◌}
use mathlib.Core.Path.{◌≡◌, refl, ap, sym, subst, ◌∙◌}
use mathlib.Core.Bool.{Bool, true, false, ◌&&◌}
use mathlib.Core.List.{List}
use mathlib.Core.Logic.{◌↔◌, ◌⊎◌, inl, inr, ⊎_map}
use native.Mathlib.Omega.{arith}
use lib.Dec.{leb}
use lib.ListN.{length}
use borrow.Author.Tests.{leb-false, lt-leb, eqb-false, ne_eqb}
use Rattle.buffer.specs.Table.{Maybe, none, some}
use Rattle.refusals.specs.declared.Refusal.{Refusal}
use Rattle.refusals.specs.declared.Refusal.TheVariants.{TemplateTooLong, TemplateNotUtf8, Failure, NoMessage, TooManySegments, TooDeep, TooWide, TooManyF, HalfEscape, FieldTooLong, FieldNotUtf8, LineTooLong, NotARecord, NotASheet, Dropped}
use Rattle.refusals.specs.Numbers.{number}
use Rattle.segments.specs.Segments.{LogSegments}
use Rattle.template.specs.Template.{Template, read, refusal, read_by}
use Rattle.settings.specs.Bits.{edition_of}
use Rattle.sheet.specs.Sheets.{Sheet, body_count, contents_end, body_bytes, bodies, is_sheet, held, sheet_of}
use Rattle.answer.specs.Answers.{Outcome, line, refused, in_room}
use Rattle.outcomes.specs.Program.{record_lines, sheet_text, maybe_sheet_text, session_text, fitting, session_outcome, session_entry}
use Rattle.demands.specs.Demand1.{number_of, NoSheet, SheetDemand1, SheetDrops, AcceptedSheet, SessionDemand1}
use Rattle.demands.proofs.Numbers.{Alone, refused_of, line_of, too_long_of, dropped_of, dropped_told, never_ten, length_told, length_of, returns, room_line, room_none, room_length, numbered}
use Rattle.demands.proofs.Templates.{RefusedWhen, refused_when, only_refused}

-- ---- what is no sheet

and_left : (a b : Bool) → a ≡ false → (a && b) ≡ false
and_left a b h = rw h

and_right : (a b : Bool) → b ≡ false → (a && b) ≡ false
and_right true b h = h
and_right false b h = refl

one_not : (a b c d e f : Bool) → (a && b && c && d && e && f) ≡ false
    → (a ≡ false) ⊎ (b ≡ false) ⊎ (c ≡ false) ⊎ (d ≡ false) ⊎ (e ≡ false) ⊎ (f ≡ false)
one_not false b c d e f h = inl refl
one_not true false c d e f h = inr (inl refl)
one_not true true false d e f h = inr (inr (inl refl))
one_not true true true false e f h = inr (inr (inr (inl refl)))
one_not true true true true false f h = inr (inr (inr (inr (inl refl))))
one_not true true true true true f h = inr (inr (inr (inr (inr h))))

one_not_back : (a b c d e f : Bool) → (a ≡ false) ⊎ (b ≡ false) ⊎ (c ≡ false) ⊎ (d ≡ false) ⊎ (e ≡ false) ⊎ (f ≡ false)
    → (a && b && c && d && e && f) ≡ false
one_not_back a b c d e f (inl h) = and_left _ f (and_left _ e (and_left _ d (and_left _ c (and_left a b h))))
one_not_back a b c d e f (inr (inl h)) = and_left _ f (and_left _ e (and_left _ d (and_left _ c (and_right a b h))))
one_not_back a b c d e f (inr (inr (inl h))) = and_left _ f (and_left _ e (and_left _ d (and_right (a && b) c h)))
one_not_back a b c d e f (inr (inr (inr (inl h)))) = and_left _ f (and_left _ e (and_right (a && b && c) d h))
one_not_back a b c d e f (inr (inr (inr (inr (inl h))))) = and_left _ f (and_right (a && b && c && d) e h)
one_not_back a b c d e f (inr (inr (inr (inr (inr h))))) = and_right (a && b && c && d && e) f h

module _ (d : List ℕ) where
  unlaid : is_sheet d ≡ false → NoSheet d
  unfolding is_sheet
  unlaid h =
      ⊎_map (leb-false (length d) 65536)
      (⊎_map (leb-false 2 (length d))
      (⊎_map (leb-false 1 (body_count d))
      (⊎_map (leb-false (contents_end d) (length d))
      (⊎_map (eqb-false (contents_end d + body_bytes (body_count d) d 2) (length d)) (λ k. k)))))
      (one_not _ _ _ _ _ _ h)

  unlaid_back : NoSheet d → is_sheet d ≡ false
  unfolding is_sheet
  unlaid_back w =
      one_not_back _ _ _ _ _ _
      (⊎_map (lt-leb (length d) 65536)
      (⊎_map (lt-leb 2 (length d))
      (⊎_map (lt-leb 1 (body_count d))
      (⊎_map (lt-leb (contents_end d) (length d))
      (⊎_map (ne_eqb (contents_end d + body_bytes (body_count d) d 2) (length d)) (λ k. k)))))
      w)

  unheld : (b : Bool) (h : Sheet) → ◌≡◌ {A = Maybe Sheet} (elim b [ true ↦ some h | false ↦ none ]) none → b ≡ false
  unheld true h e = cc
  unheld false h e = refl

  none_when : (sheet_of d ≡ none) ↔ NoSheet d
  unfolding sheet_of
  none_when = ((λ e. unlaid (unheld (is_sheet d) (held (bodies d)) e)), λ w. rw (unlaid_back w, sheet_of))

  pub sheet_demand1 : SheetDemand1 d
  sheet_demand1 = record { is_15 = none_when }

module _ (d : List ℕ) (room : ℕ) where
  -- ---- the table

  -- what has lines, in whatever room
  abbrev HasLines : Type 0
  HasLines = (h : Sheet) × (s : LogSegments) × AcceptedSheet d h s

  -- its template is refused with r
  abbrev Unread : Refusal → Type 0
  Unread r = (h : Sheet) × (sheet_of d ≡ some h) × RefusedWhen (edition_of h.settings) h.template r

  abbrev SessionRefusedWhen : Refusal → Type 0
  SessionRefusedWhen TemplateTooLong = Unread TemplateTooLong
  SessionRefusedWhen TemplateNotUtf8 = Unread TemplateNotUtf8
  SessionRefusedWhen Failure = Unread Failure
  SessionRefusedWhen NoMessage = Unread NoMessage
  SessionRefusedWhen TooManySegments = Unread TooManySegments
  SessionRefusedWhen TooDeep = Unread TooDeep
  SessionRefusedWhen TooWide = Unread TooWide
  SessionRefusedWhen TooManyF = Unread TooManyF
  SessionRefusedWhen HalfEscape = Unread HalfEscape
  SessionRefusedWhen FieldTooLong = ⊥
  SessionRefusedWhen FieldNotUtf8 = ⊥
  SessionRefusedWhen (LineTooLong n) = HasLines
  SessionRefusedWhen NotARecord = ⊥
  SessionRefusedWhen NotASheet = NoSheet d
  SessionRefusedWhen (Dropped p) = Unread (Dropped p)

  abbrev SessionWhen : Outcome → Type 0
  SessionWhen (line x) = HasLines
  SessionWhen (refused r) = SessionRefusedWhen r

  -- ---- what is given stands in the table

  by_template_lem : (r : Refusal) → Unread r → SessionRefusedWhen r
  by_template_lem TemplateTooLong w = w
  by_template_lem TemplateNotUtf8 w = w
  by_template_lem Failure w = w
  by_template_lem NoMessage w = w
  by_template_lem TooManySegments w = w
  by_template_lem TooDeep w = w
  by_template_lem TooWide w = w
  by_template_lem TooManyF w = w
  by_template_lem HalfEscape w = w
  by_template_lem FieldTooLong w = w.2
  by_template_lem FieldNotUtf8 w = w.2
  by_template_lem (LineTooLong n) w = absurd w.2
  by_template_lem NotARecord w = w.2
  by_template_lem NotASheet w = absurd w.2
  by_template_lem (Dropped p) w = w

  in_room_lem : HasLines → (x : List ℕ) → SessionWhen (in_room room x)
  unfolding in_room
  in_room_lem a x = by (leb (length x) room)
    where
      by : (b : Bool) → SessionWhen (elim b [ true ↦ line x | false ↦ refused (LineTooLong (length x)) ])
      by true = a
      by false = a

  tried : (h : Sheet) → sheet_of d ≡ some h → (x : Template) → read_by (edition_of h.settings) h.template ≡ x → SessionWhen (fitting room (sheet_text h x))
  unfolding fitting sheet_text
  tried h e (read s) k = in_room_lem (h, s, record { sheet = e; template = k }) _
  tried h e (refusal r) k = by_template_lem r (h, e, refused_when (edition_of h.settings) h.template r k)

  opened : (m : Maybe Sheet) → sheet_of d ≡ m → SessionWhen (fitting room (maybe_sheet_text m))
  unfolding fitting maybe_sheet_text
  opened none e = (none_when d).0 e
  opened (some h) e = tried h e (read_by (edition_of h.settings) h.template) refl

  session_when : SessionWhen (session_outcome d room)
  unfolding session_outcome session_text
  session_when = opened (sheet_of d) refl

  -- ---- and nothing else does

  is_sheet_lem : (h : Sheet) → sheet_of d ≡ some h → session_outcome d room ≡ fitting room (sheet_text h (read_by (edition_of h.settings) h.template))
  unfolding session_outcome session_text maybe_sheet_text
  is_sheet_lem h e = ap (λ (m : Maybe Sheet). fitting room (maybe_sheet_text m)) e

  pub accepted_sheet : (h : Sheet) (s : LogSegments) → AcceptedSheet d h s → session_outcome d room ≡ in_room room (record_lines h s h.records)
  unfolding sheet_text fitting
  accepted_sheet h s a = is_sheet_lem h a.sheet ∙ ap (λ (x : Template). fitting room (sheet_text h x)) a.template

  template_refused : (r : Refusal) → Unread r → session_outcome d room ≡ refused r
  unfolding sheet_text fitting
  template_refused r w = is_sheet_lem w.0 w.1 ∙ ap (λ (x : Template). fitting room (sheet_text w.0 x)) (only_refused (edition_of w.0.settings) w.0.template r w.2)

  not_sheet : NoSheet d → session_outcome d room ≡ refused NotASheet
  unfolding session_outcome session_text maybe_sheet_text fitting
  not_sheet w = ap (λ (m : Maybe Sheet). fitting room (maybe_sheet_text m)) ((none_when d).1 w)

  -- ---- the numbers

  is : (r : Refusal) → Alone r → (SessionRefusedWhen r → session_outcome d room ≡ refused r)
      → (number_of (session_outcome d room) ≡ number r) ↔ SessionRefusedWhen r
  is r h only = numbered SessionWhen (session_outcome d room) session_when number_of (refused r) (refused_of (session_outcome d room) r h) only

  -- lines, or too many of them, are those of an accepted sheet
  pub has_lines : number_of (session_outcome d room) ≡ 0 → HasLines
  has_lines e = let x = line_of (session_outcome d room) e in subst SessionWhen x.1 session_when

  has_long_lines : number_of (session_outcome d room) ≡ 13 → HasLines
  has_long_lines e = subst SessionWhen (too_long_of (session_outcome d room) e) session_when

  is_0 : number_of (session_outcome d room) ≡ 0 ↔ ((h : Sheet) × (s : LogSegments) × AcceptedSheet d h s × (length (record_lines h s h.records) ≤ room))
  is_0 = (
    (λ e. let a = has_lines e in (a.0, a.1, a.2, (room_line room _).0 (ap number_of (sym (accepted_sheet a.0 a.1 a.2)) ∙ e))),
    (λ w. ap number_of (accepted_sheet w.0 w.1 w.2) ∙ (room_line room _).1 w.3),
  )

  is_13 : number_of (session_outcome d room) ≡ 13 ↔ ((h : Sheet) × (s : LogSegments) × AcceptedSheet d h s × (room < length (record_lines h s h.records)))
  is_13 = (
    (λ e. let a = has_long_lines e in (a.0, a.1, a.2, (room_none room _).0 (ap number_of (sym (accepted_sheet a.0 a.1 a.2)) ∙ e))),
    (λ w. ap number_of (accepted_sheet w.0 w.1 w.2) ∙ (room_none room _).1 w.3),
  )

  -- what is dropped
  drops : number_of (session_outcome d room) ≡ 17 → (p : ℕ) × SheetDrops d p
  drops e = (_, subst SessionWhen (dropped_of (session_outcome d room) e) session_when)

  dropped_sheet : (p : ℕ) → SheetDrops d p → session_outcome d room ≡ refused (Dropped p)
  dropped_sheet p w = template_refused (Dropped p) w

-- ---- the demand

pub session_demand1 : (d lent : List ℕ) → SessionDemand1 d lent
session_demand1 d lent =
    let by = is d (length lent) in
    let unread = template_refused d (length lent) in
    record {
      is_15 = by NotASheet (omega arith) (not_sheet d (length lent));
      is_1 = by TemplateTooLong (omega arith) (unread TemplateTooLong);
      is_2 = by TemplateNotUtf8 (omega arith) (unread TemplateNotUtf8);
      is_3 = by Failure (omega arith) (unread Failure);
      is_5 = by TooManySegments (omega arith) (unread TooManySegments);
      is_6 = by TooDeep (omega arith) (unread TooDeep);
      is_7 = by TooWide (omega arith) (unread TooWide);
      is_8 = by TooManyF (omega arith) (unread TooManyF);
      is_9 = by HalfEscape (omega arith) (unread HalfEscape);
      never_10 = never_ten (session_entry d lent);
      is_4 = by NoMessage (omega arith) (unread NoMessage);
      is_17 = (drops d (length lent), λ w. ap number_of (dropped_sheet d (length lent) w.0 w.1));
      place = λ p w left answer m.
          length_told (session_entry d lent) lent left answer m
          ∙ ap length_of (dropped_sheet d (length lent) p w)
          ∙ dropped_told p;
      never_14 = λ e. (by NotARecord (omega arith) (λ w. absurd w)).0 e;
      never_11 = λ e. (by FieldTooLong (omega arith) (λ w. absurd w)).0 e;
      never_12 = λ e. (by FieldNotUtf8 (omega arith) (λ w. absurd w)).0 e;
      is_13 = is_13 d (length lent);
      needed = λ h s a left answer m.
          length_told (session_entry d lent) lent left answer m
          ∙ ap length_of (accepted_sheet d (length lent) h s a)
          ∙ room_length (length lent) (record_lines h s h.records);
      is_0 = is_0 d (length lent);
      returns = returns (session_entry d lent) lent;
    }
