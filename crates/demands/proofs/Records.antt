-- Demand 1 holds of every record. Assumes nothing.
use Prim.Native.Nat.{ℕ, ◌≤◌}
use mathlib.Core.Path.{◌≡◌, refl, ap, sym, subst, ◌∙◌}
use mathlib.Core.Bool.{Bool, true, false, not, ◌||◌, ◌&&◌}
use mathlib.Core.List.{List, [], ◌∷◌}
use mathlib.Core.Logic.{◌↔◌, ◌⊎◌, inl, inr, ⊎_map, ◌≢◌}
use native.Mathlib.Omega.{arith}
use lib.Dec.{eqb, leb, ltb}
use lib.ListN.{length}
use borrow.Author.Tests.{ltb-true, lt-ltb, leb-true, leb-false, le-leb, lt-leb, eqb-true, eqb-false, eq-eqb, ne_eqb, not-true}
use Rattle.buffer.proofs.Sameness.{both_true}
use Rattle.buffer.specs.Table.{Maybe, none, some}
use Rattle.utf8.specs.Utf8.{valid}
use Rattle.refusals.specs.declared.Refusal.{Refusal}
use Rattle.refusals.specs.declared.Refusal.TheVariants.{TemplateTooLong, TemplateNotUtf8, Failure, NoMessage, TooManySegments, TooDeep, TooWide, TooManyF, HalfEscape, FieldTooLong, FieldNotUtf8, LineTooLong, NotARecord, NotASheet, Dropped}
use Rattle.refusals.specs.Numbers.{number}
use Rattle.record.specs.declared.Form.{Form}
use Rattle.record.specs.Layout.{Laid}
use Rattle.record.specs.Contents.{has_file, has_line, has_module, has_serial}
use Rattle.checks.specs.Checks.{most_mask, bad_numbers, absent_but_there, absent_field, badly_marked, field_refusal, or_next, fields_refusal, record_refusal}
use Rattle.demands.specs.Conditions.{first_bad_mask, BadNumbers, AbsentField, BadlyMarked, Field, ◌of_at_most◌, FieldLong, FieldBroken, FieldPasses, fields_of, First, AllPass, RecordLong, RecordBroken, RecordPasses}
use Rattle.demands.specs.Demand1.{RecordDemand1}
use Rattle.demands.proofs.Numbers.{exactly}

-- ---- tests

pub both_back : (a b : Bool) → a ≡ true → b ≡ true → (a && b) ≡ true
both_back a b h g = rw (h, g)

or_left : (a b : Bool) → a ≡ true → (a || b) ≡ true
or_left a b h = rw h

or_right : (a b : Bool) → b ≡ true → (a || b) ≡ true
or_right true b h = refl
or_right false b h = h

either_of : (a b : Bool) → (a || b) ≡ true → (a ≡ true) ⊎ (b ≡ true)
either_of true b h = inl refl
either_of false b h = inr h

either_back : (a b : Bool) → (a ≡ true) ⊎ (b ≡ true) → (a || b) ≡ true
either_back a b (inl h) = or_left a b h
either_back a b (inr h) = or_right a b h

one_of : (a b c d : Bool) → (a || b || c || d) ≡ true → (a ≡ true) ⊎ (b ≡ true) ⊎ (c ≡ true) ⊎ (d ≡ true)
one_of true b c d h = inl refl
one_of false true c d h = inr (inl refl)
one_of false false true d h = inr (inr (inl refl))
one_of false false false d h = inr (inr (inr h))

one_of_back : (a b c d : Bool) → (a ≡ true) ⊎ (b ≡ true) ⊎ (c ≡ true) ⊎ (d ≡ true) → (a || b || c || d) ≡ true
one_of_back a b c d (inl h) = or_left _ d (or_left _ c (or_left a b h))
one_of_back a b c d (inr (inl h)) = or_left _ d (or_left _ c (or_right a b h))
one_of_back a b c d (inr (inr (inl h))) = or_left _ d (or_right (a || b) c h)
one_of_back a b c d (inr (inr (inr h))) = or_right (a || b || c) d h

-- ---- 14

absent : (present : Bool) (n : ℕ) → absent_but_there present n ≡ true → (present ≡ false) × (n ≢ 0)
unfolding absent_but_there
absent present n e =
    let b = both_true (not present) (not (eqb n 0)) e in
    (not-true present b.0, eqb-false n 0 (not-true (eqb n 0) b.1))

absent_back : (present : Bool) (n : ℕ) → (present ≡ false) × (n ≢ 0) → absent_but_there present n ≡ true
unfolding absent_but_there
absent_back present n h = rw (h.0, ne_eqb n 0 h.1)

-- "14 now starts at mask 16, and in old sheets still at 8"
over : (form : Form) (mask : ℕ) → ltb (most_mask form) mask ≡ true → first_bad_mask form ≤ mask
over Form.Old mask e = omega (arith, ltb-true 7 mask e)
over Form.New mask e = omega (arith, ltb-true 15 mask e)

over_back : (form : Form) (mask : ℕ) → first_bad_mask form ≤ mask → ltb (most_mask form) mask ≡ true
over_back Form.Old mask h = lt-ltb 7 mask (omega (arith, h))
over_back Form.New mask h = lt-ltb 15 mask (omega (arith, h))

absent_any : (d : Laid) → absent_field d ≡ true → AbsentField d
unfolding absent_field
absent_any d e =
    ⊎_map (absent (has_file d) (length d.file))
    (⊎_map (absent (has_line d) d.line)
    (⊎_map (absent (has_module d) (length d.module_path))
    (absent (has_serial d) (length d.serial))))
    (one_of _ _ _ _ e)

absent_any_back : (d : Laid) → AbsentField d → absent_field d ≡ true
unfolding absent_field
absent_any_back d w =
    one_of_back _ _ _ _
    (⊎_map (absent_back (has_file d) (length d.file))
    (⊎_map (absent_back (has_line d) d.line)
    (⊎_map (absent_back (has_module d) (length d.module_path))
    (absent_back (has_serial d) (length d.serial))))
    w)

module _ (form : Form) (d : Laid) where
  numbers : bad_numbers (most_mask form) d.source d.level d.mask ≡ true → BadNumbers form d
  unfolding bad_numbers
  numbers e =
      ⊎_map (ltb-true 1 d.source)
      (⊎_map (ltb-true 5 d.level)
      (⊎_map (λ h. let b = both_true (eqb d.source 1) (eqb d.level 0) h in (eqb-true d.source 1 b.0, eqb-true d.level 0 b.1))
      (over form d.mask)))
      (one_of _ _ _ _ e)

  numbers_back : BadNumbers form d → bad_numbers (most_mask form) d.source d.level d.mask ≡ true
  unfolding bad_numbers
  numbers_back w =
      one_of_back _ _ _ _
      (⊎_map (lt-ltb 1 d.source)
      (⊎_map (lt-ltb 5 d.level)
      (⊎_map (λ h. both_back (eqb d.source 1) (eqb d.level 0) (eq-eqb d.source 1 h.0) (eq-eqb d.level 0 h.1))
      (over_back form d.mask)))
      w)

  marked : badly_marked form d ≡ true → BadlyMarked form d
  unfolding badly_marked
  marked e = ⊎_map numbers (absent_any d) (either_of _ _ e)

  marked_back : BadlyMarked form d → badly_marked form d ≡ true
  unfolding badly_marked
  marked_back w = either_back _ _ (⊎_map numbers_back (absent_any_back d) w)

  unmarked : badly_marked form d ≡ false → BadlyMarked form d → ⊥
  unmarked e w = let k = marked_back w in let z : ◌≡◌ {A = ℕ} 0 1 = cc in omega (arith, z)

  unmarked_back : (BadlyMarked form d → ⊥) → badly_marked form d ≡ false
  unmarked_back h = by (badly_marked form d) refl
    where
      by : (b : Bool) → badly_marked form d ≡ b → badly_marked form d ≡ false
      by true e = absurd (h (marked e))
      by false e = e

-- ---- 11 and 12

-- the refusal of some texts in turn
first_refusal : List Field → Maybe Refusal
first_refusal [] = none
first_refusal (x ∷ rest) = or_next (field_refusal x.most x.text) λ _. first_refusal rest

last_one : (m : Maybe Refusal) → or_next m (λ _. none) ≡ m
unfolding or_next
last_one none = refl
last_one (some r) = refl

in_turn : (d : Laid) → fields_refusal d ≡ first_refusal (fields_of d)
unfolding fields_refusal first_refusal
in_turn d =
    ap
    (λ (m : Maybe Refusal).
    or_next (field_refusal 4096 d.file) λ _. or_next (field_refusal 4096 d.module_path) λ _. or_next (field_refusal 4096 d.timestamp) λ _. or_next (field_refusal 4096 d.message) λ _. m)
    (sym (last_one (field_refusal 32 d.serial)))

-- by a field's two tests
abbrev ByTests : Bool → Bool → Maybe Refusal
ByTests short utf8 = elim short [ true ↦ elim utf8 [ true ↦ none | false ↦ some FieldNotUtf8 ] | false ↦ some FieldTooLong ]

abbrev FieldsWhen : List Field → Maybe Refusal → Type 0
FieldsWhen l none = AllPass l
FieldsWhen l (some TemplateTooLong) = ⊥
FieldsWhen l (some TemplateNotUtf8) = ⊥
FieldsWhen l (some Failure) = ⊥
FieldsWhen l (some NoMessage) = ⊥
FieldsWhen l (some TooManySegments) = ⊥
FieldsWhen l (some TooDeep) = ⊥
FieldsWhen l (some TooWide) = ⊥
FieldsWhen l (some TooManyF) = ⊥
FieldsWhen l (some HalfEscape) = ⊥
FieldsWhen l (some FieldTooLong) = First FieldLong l
FieldsWhen l (some FieldNotUtf8) = First FieldBroken l
FieldsWhen l (some (LineTooLong n)) = ⊥
FieldsWhen l (some NotARecord) = ⊥
FieldsWhen l (some NotASheet) = ⊥
FieldsWhen l (some (Dropped p)) = ⊥

further : (x : Field) (rest : List Field) → FieldPasses x → (m : Maybe Refusal) → FieldsWhen rest m → FieldsWhen (x ∷ rest) m
further x rest p none w = (p, w)
further x rest p (some FieldTooLong) w = inr (p, w)
further x rest p (some FieldNotUtf8) w = inr (p, w)
further x rest p (some TemplateTooLong) w = w
further x rest p (some TemplateNotUtf8) w = w
further x rest p (some Failure) w = w
further x rest p (some NoMessage) w = w
further x rest p (some TooManySegments) w = w
further x rest p (some TooDeep) w = w
further x rest p (some TooWide) w = w
further x rest p (some TooManyF) w = w
further x rest p (some HalfEscape) w = w
further x rest p (some (LineTooLong n)) w = w
further x rest p (some NotARecord) w = w
further x rest p (some NotASheet) w = w
further x rest p (some (Dropped q)) w = w

-- one field and what is said of those behind it
field_when : (x : Field) (rest : List Field) (m : Maybe Refusal) → FieldsWhen rest m → FieldsWhen (x ∷ rest) (or_next (field_refusal x.most x.text) λ _. m)
unfolding field_refusal or_next
field_when x rest m w = by (leb (length x.text) x.most) refl (valid x.text) refl
  where
    by : (b : Bool) → leb (length x.text) x.most ≡ b → (v : Bool) → valid x.text ≡ v → FieldsWhen (x ∷ rest) (or_next (ByTests b v) λ _. m)
    by false e v k = inl (leb-false (length x.text) x.most e)
    by true e false k = inl (leb-true (length x.text) x.most e, k)
    by true e true k = further x rest (leb-true (length x.text) x.most e, k) m w

fields_when : (l : List Field) → FieldsWhen l (first_refusal l)
unfolding first_refusal
fields_when [] = tt
fields_when (x ∷ rest) = field_when x rest (first_refusal rest) (fields_when rest)

passes_field : (x : Field) → FieldPasses x → field_refusal x.most x.text ≡ none
unfolding field_refusal
passes_field x h = rw (le-leb (length x.text) x.most h.0, h.1, field_refusal)

long_field : (x : Field) → FieldLong x → field_refusal x.most x.text ≡ some FieldTooLong
unfolding field_refusal
long_field x h = rw (lt-leb (length x.text) x.most h, field_refusal)

broken_field : (x : Field) → FieldBroken x → field_refusal x.most x.text ≡ some FieldNotUtf8
unfolding field_refusal
broken_field x h = rw (le-leb (length x.text) x.most h.0, h.1, field_refusal)

-- where the refusal of the first text is known
first_is : (x : Field) (rest : List Field) (m : Maybe Refusal) → field_refusal x.most x.text ≡ m → first_refusal (x ∷ rest) ≡ or_next m λ _. first_refusal rest
unfolding first_refusal
first_is x rest m e = ap (λ (q : Maybe Refusal). or_next q λ _. first_refusal rest) e

only_pass : (l : List Field) → AllPass l → first_refusal l ≡ none
unfolding first_refusal or_next
only_pass [] w = refl
only_pass (x ∷ rest) w = first_is x rest none (passes_field x w.0) ∙ only_pass rest w.1

only_long : (l : List Field) → First FieldLong l → first_refusal l ≡ some FieldTooLong
unfolding or_next
only_long [] w = absurd w
only_long (x ∷ rest) (inl h) = first_is x rest (some FieldTooLong) (long_field x h)
only_long (x ∷ rest) (inr h) = first_is x rest none (passes_field x h.0) ∙ only_long rest h.1

only_broken : (l : List Field) → First FieldBroken l → first_refusal l ≡ some FieldNotUtf8
unfolding or_next
only_broken [] w = absurd w
only_broken (x ∷ rest) (inl h) = first_is x rest (some FieldNotUtf8) (broken_field x h)
only_broken (x ∷ rest) (inr h) = first_is x rest none (passes_field x h.0) ∙ only_broken rest h.1

-- ---- the table

abbrev pub RecordRefusedWhen : Form → Laid → Refusal → Type 0
RecordRefusedWhen form d TemplateTooLong = ⊥
RecordRefusedWhen form d TemplateNotUtf8 = ⊥
RecordRefusedWhen form d Failure = ⊥
RecordRefusedWhen form d NoMessage = ⊥
RecordRefusedWhen form d TooManySegments = ⊥
RecordRefusedWhen form d TooDeep = ⊥
RecordRefusedWhen form d TooWide = ⊥
RecordRefusedWhen form d TooManyF = ⊥
RecordRefusedWhen form d HalfEscape = ⊥
RecordRefusedWhen form d FieldTooLong = RecordLong form d
RecordRefusedWhen form d FieldNotUtf8 = RecordBroken form d
RecordRefusedWhen form d (LineTooLong n) = ⊥
RecordRefusedWhen form d NotARecord = BadlyMarked form d
RecordRefusedWhen form d NotASheet = ⊥
RecordRefusedWhen form d (Dropped p) = ⊥

abbrev When : Form → Laid → Maybe Refusal → Type 0
When form d none = RecordPasses form d
When form d (some r) = RecordRefusedWhen form d r

module _ (form : Form) (d : Laid) where
  well_marked : (BadlyMarked form d → ⊥) → (m : Maybe Refusal) → FieldsWhen (fields_of d) m → When form d m
  well_marked h none w = (h, w)
  well_marked h (some FieldTooLong) w = (h, w)
  well_marked h (some FieldNotUtf8) w = (h, w)
  well_marked h (some TemplateTooLong) w = w
  well_marked h (some TemplateNotUtf8) w = w
  well_marked h (some Failure) w = w
  well_marked h (some NoMessage) w = w
  well_marked h (some TooManySegments) w = w
  well_marked h (some TooDeep) w = w
  well_marked h (some TooWide) w = w
  well_marked h (some TooManyF) w = w
  well_marked h (some HalfEscape) w = w
  well_marked h (some (LineTooLong n)) w = w
  well_marked h (some NotARecord) w = absurd w
  well_marked h (some NotASheet) w = w
  well_marked h (some (Dropped p)) w = w

  record_when : When form d (record_refusal form d)
  unfolding record_refusal
  record_when = by (badly_marked form d) refl
    where
      by : (b : Bool) → badly_marked form d ≡ b → When form d (elim b [ true ↦ some NotARecord | false ↦ fields_refusal d ])
      by true e = marked form d e
      by false e = well_marked (unmarked form d e) (fields_refusal d) (subst (FieldsWhen (fields_of d)) (sym (in_turn d)) (fields_when (fields_of d)))

  checked : (BadlyMarked form d → ⊥) → record_refusal form d ≡ first_refusal (fields_of d)
  unfolding record_refusal
  checked h = (rw (unmarked_back form d h, record_refusal)) ∙ in_turn d

  pub only_refused : (r : Refusal) → RecordRefusedWhen form d r → record_refusal form d ≡ some r
  unfolding record_refusal
  only_refused FieldTooLong w = checked w.0 ∙ only_long (fields_of d) w.1
  only_refused FieldNotUtf8 w = checked w.0 ∙ only_broken (fields_of d) w.1
  only_refused NotARecord w = rw (marked_back form d w, record_refusal)
  only_refused TemplateTooLong w = absurd w
  only_refused TemplateNotUtf8 w = absurd w
  only_refused Failure w = absurd w
  only_refused NoMessage w = absurd w
  only_refused TooManySegments w = absurd w
  only_refused TooDeep w = absurd w
  only_refused TooWide w = absurd w
  only_refused TooManyF w = absurd w
  only_refused HalfEscape w = absurd w
  only_refused (LineTooLong n) w = absurd w
  only_refused NotASheet w = absurd w
  only_refused (Dropped p) w = absurd w

  only : (m : Maybe Refusal) → When form d m → record_refusal form d ≡ m
  only none w = checked w.0 ∙ only_pass (fields_of d) w.1
  only (some r) w = only_refused r w

  three : (r : Refusal) → RecordRefusedWhen form d r → (number r ≡ 11) ⊎ (number r ≡ 12) ⊎ (number r ≡ 14)
  three FieldTooLong w = inl refl
  three FieldNotUtf8 w = inr (inl refl)
  three NotARecord w = inr (inr refl)
  three TemplateTooLong w = absurd w
  three TemplateNotUtf8 w = absurd w
  three Failure w = absurd w
  three NoMessage w = absurd w
  three TooManySegments w = absurd w
  three TooDeep w = absurd w
  three TooWide w = absurd w
  three TooManyF w = absurd w
  three HalfEscape w = absurd w
  three (LineTooLong n) w = absurd w
  three NotASheet w = absurd w
  three (Dropped p) w = absurd w

  -- ---- the demand

  exactly_when : (m : Maybe Refusal) → (record_refusal form d ≡ m) ↔ When form d m
  exactly_when m = exactly (When form d) (record_refusal form d) record_when m (only m)

  pub refused_when : (r : Refusal) → record_refusal form d ≡ some r → RecordRefusedWhen form d r
  refused_when r e = (exactly_when (some r)).0 e

  pub passes_when : (record_refusal form d ≡ none) ↔ RecordPasses form d
  passes_when = exactly_when none

  pub record_demand1 : RecordDemand1 form d
  record_demand1 = record {
    passes = passes_when;
    is_14 = exactly_when (some NotARecord);
    is_11 = exactly_when (some FieldTooLong);
    is_12 = exactly_when (some FieldNotUtf8);
    numbered = λ r e. three r (refused_when r e);
  }
