-- Demand 1 holds of every template, in either edition. Assumes nothing.
use Prim.Native.Nat.{ℕ, zero, suc, ◌+◌, ◌*◌, ◌≤◌, ◌<◌}
use mathlib.Core.Path.{◌≡◌, refl, ap, sym, subst, ◌∙◌}
use mathlib.Core.Bool.{Bool, true, false}
use mathlib.Core.List.{List}
use mathlib.Core.Logic.{◌↔◌, ◌⊎◌, inl, inr}
use native.Mathlib.Omega.{arith}
use lib.Dec.{leb, ltb}
use lib.ListN.{length}
use borrow.Author.Tests.{leb-true, leb-false, le-leb, lt-leb, ltb-true, ltb-false, le-ltb, lt-ltb}
use Rattle.utf8.specs.Utf8.{valid}
use Rattle.letters.specs.Marked.{marked}
use Rattle.refusals.specs.declared.Refusal.{Refusal}
use Rattle.refusals.specs.declared.Refusal.TheVariants.{TemplateTooLong, TemplateNotUtf8, Failure, NoMessage, TooManySegments, TooDeep, TooWide, TooManyF, HalfEscape, FieldTooLong, FieldNotUtf8, LineTooLong, NotARecord, NotASheet, Dropped}
use Rattle.buffer.specs.Table.{Maybe, none, some}
use Rattle.refusals.specs.Numbers.{number, value_with}
use Rattle.words.specs.Trying.{Tried, fit, misfit, refused, while_it_fits, repeated}
use Rattle.building.specs.Reading.{Top}
use Rattle.segments.specs.Segments.{LogSegments, is_log, named_among}
use Rattle.template.specs.Template.{Template, read, refusal, reading, with_message, ended, top_level, read_template, all_used, read_by, names_timestamp}
use Rattle.template.specs.declared.Edition.{Edition}
use Rattle.template.proofs.Editions.{refused_alike}
use Rattle.unused.specs.Unused.{first_of, unused_in}
use Rattle.settings.specs.Bits.{is_known, edition_of}
use Rattle.template.proofs.Refusing.{ByReading, reading_refuses, unsized, OfTemplate, refused_by}
use Rattle.checking.specs.Templates.{template_asked, refusal_told, check_of, timestamp_of}
use Rattle.demands.specs.Conditions.{TemplateLong, TemplateBroken, Legible, Stops, Gives, Wordless, FirstAccepts, Accepts, Drops}
use Rattle.demands.specs.Demand1.{template_number, TemplateDemand1, TimestampDemand1, CheckDemand1}
use Rattle.demands.proofs.Numbers.{numbers, one_number, exactly, numbered}
use Rattle.demands.proofs.Firsts.{nothing_unused, first_says, used_first, first_is}

-- ---- the table

abbrev FirstRefusedWhen : List ℕ → Refusal → Type 0
FirstRefusedWhen t TemplateTooLong = TemplateLong t
FirstRefusedWhen t TemplateNotUtf8 = TemplateBroken t
FirstRefusedWhen t Failure = Stops t Failure
FirstRefusedWhen t NoMessage = Wordless t
FirstRefusedWhen t TooManySegments = Stops t TooManySegments
FirstRefusedWhen t TooDeep = Stops t TooDeep
FirstRefusedWhen t TooWide = Stops t TooWide
FirstRefusedWhen t TooManyF = Stops t TooManyF
FirstRefusedWhen t HalfEscape = Stops t HalfEscape
FirstRefusedWhen t FieldTooLong = ⊥
FirstRefusedWhen t FieldNotUtf8 = ⊥
FirstRefusedWhen t (LineTooLong n) = ⊥
FirstRefusedWhen t NotARecord = ⊥
FirstRefusedWhen t NotASheet = ⊥
FirstRefusedWhen t (Dropped p) = ⊥

abbrev WhenFirst : List ℕ → Template → Type 0
WhenFirst t (read s) = FirstAccepts t s
WhenFirst t (refusal r) = FirstRefusedWhen t r

-- ---- what is given stands in the table

-- what is repeated never misfits
module _ {S : Type 0} where
  goes_on_lem : (x : Tried S) (again : ℕ → S → Tried S) (i : ℕ) (s : S) → ((j : ℕ) (u : S) → again j u ≡ misfit → ⊥) → while_it_fits x again i s ≡ misfit → ⊥
  unfolding while_it_fits
  goes_on_lem (fit u j) again i s h e = h j u e
  goes_on_lem misfit again i s h e = let z : ◌≡◌ {A = ℕ} 0 1 = cc in omega (arith, z)
  goes_on_lem (refused r) again i s h e = let z : ◌≡◌ {A = ℕ} 0 1 = cc in omega (arith, z)

  fits : (item : ℕ → S → Tried S) (n i : ℕ) (s : S) → repeated item n i s ≡ misfit → ⊥
  unfolding repeated
  fits item zero i s e = let z : ◌≡◌ {A = ℕ} 0 1 = cc in omega (arith, z)
  fits item (suc n) i s e = goes_on_lem (item i s) (repeated item n) i s (fits item n) e

module _ (t : List ℕ) where
  stopped : (r : Refusal) → ByReading r → Stops t r → FirstRefusedWhen t r
  stopped Failure h w = w
  stopped TooManySegments h w = w
  stopped TooDeep h w = w
  stopped TooWide h w = w
  stopped TooManyF h w = w
  stopped HalfEscape h w = w
  stopped TemplateTooLong h w = absurd h
  stopped TemplateNotUtf8 h w = absurd h
  stopped NoMessage h w = absurd h
  stopped FieldTooLong h w = absurd h
  stopped FieldNotUtf8 h w = absurd h
  stopped (LineTooLong n) h w = absurd h
  stopped NotARecord h w = absurd h
  stopped NotASheet h w = absurd h
  stopped (Dropped p) h w = absurd h

  message_when : (s : LogSegments) → Gives t s → (b : Bool) → named_among is_log s ≡ b → WhenFirst t (elim b [ true ↦ read s | false ↦ refusal NoMessage ])
  message_when s g true e = (g, e)
  message_when s g false e = (s, g, e)

  ended_when : Legible t → (x : Tried Top) → reading (marked t) ≡ x → WhenFirst t (ended x)
  unfolding ended with_message
  ended_when h (fit s j) e = message_when s.segments (h, (s.made, j, e)) (named_among is_log s.segments) refl
  ended_when h misfit e = absurd (fits _ (length (marked t)) 0 _ e)
  ended_when h (refused r) e = stopped r (reading_refuses (marked t) r e) (h, e)

  first_when : WhenFirst t (read_template t)
  unfolding read_template top_level
  first_when = by (leb (length t) 1024) refl (valid t) refl
    where
      by : (b : Bool) → leb (length t) 1024 ≡ b → (v : Bool) → valid t ≡ v
          → WhenFirst t (elim b [ true ↦ elim v [ true ↦ top_level (marked t) | false ↦ refusal TemplateNotUtf8 ] | false ↦ refusal TemplateTooLong ])
      by false e v k = leb-false (length t) 1024 e
      by true e false k = (leb-true (length t) 1024 e, k)
      by true e true k = ended_when (leb-true (length t) 1024 e, k) (reading (marked t)) refl

  -- ---- and nothing else does

  long : TemplateLong t → read_template t ≡ refusal TemplateTooLong
  unfolding read_template
  long h = rw (lt-leb (length t) 1024 h, read_template)

  broken : TemplateBroken t → read_template t ≡ refusal TemplateNotUtf8
  unfolding read_template
  broken h = rw (le-leb (length t) 1024 h.0, h.1, read_template)

  begun : Legible t → read_template t ≡ ended (reading (marked t))
  unfolding read_template top_level
  begun h = rw (le-leb (length t) 1024 h.0, h.1, read_template)

  stops : (r : Refusal) → Stops t r → read_template t ≡ refusal r
  unfolding ended
  stops r h = begun h.0 ∙ ap ended h.1

  given : (s : LogSegments) → Gives t s → read_template t ≡ with_message s
  unfolding ended
  given s h = begun h.0 ∙ ap ended h.1.2

  first_refused : (r : Refusal) → FirstRefusedWhen t r → read_template t ≡ refusal r
  unfolding with_message
  first_refused TemplateTooLong w = long w
  first_refused TemplateNotUtf8 w = broken w
  first_refused Failure w = stops Failure w
  first_refused NoMessage w = given w.0 w.1 ∙ (rw (w.2, with_message))
  first_refused TooManySegments w = stops TooManySegments w
  first_refused TooDeep w = stops TooDeep w
  first_refused TooWide w = stops TooWide w
  first_refused TooManyF w = stops TooManyF w
  first_refused HalfEscape w = stops HalfEscape w
  first_refused FieldTooLong w = absurd w
  first_refused FieldNotUtf8 w = absurd w
  first_refused (LineTooLong n) w = absurd w
  first_refused NotARecord w = absurd w
  first_refused NotASheet w = absurd w
  first_refused (Dropped p) w = absurd w

  first_read : (s : LogSegments) → FirstAccepts t s → read_template t ≡ read s
  unfolding with_message
  first_read s w = given s w.0 ∙ (rw (w.1, with_message))

  pub first_accepted : (s : LogSegments) → (read_template t ≡ read s) ↔ FirstAccepts t s
  first_accepted s = exactly (WhenFirst t) (read_template t) first_when (read s) (first_read s)

-- ---- by either edition

abbrev pub RefusedWhen : Edition → List ℕ → Refusal → Type 0
RefusedWhen edition t TemplateTooLong = FirstRefusedWhen t TemplateTooLong
RefusedWhen edition t TemplateNotUtf8 = FirstRefusedWhen t TemplateNotUtf8
RefusedWhen edition t Failure = FirstRefusedWhen t Failure
RefusedWhen edition t NoMessage = FirstRefusedWhen t NoMessage
RefusedWhen edition t TooManySegments = FirstRefusedWhen t TooManySegments
RefusedWhen edition t TooDeep = FirstRefusedWhen t TooDeep
RefusedWhen edition t TooWide = FirstRefusedWhen t TooWide
RefusedWhen edition t TooManyF = FirstRefusedWhen t TooManyF
RefusedWhen edition t HalfEscape = FirstRefusedWhen t HalfEscape
RefusedWhen edition t FieldTooLong = FirstRefusedWhen t FieldTooLong
RefusedWhen edition t FieldNotUtf8 = FirstRefusedWhen t FieldNotUtf8
RefusedWhen edition t (LineTooLong n) = FirstRefusedWhen t (LineTooLong n)
RefusedWhen edition t NotARecord = FirstRefusedWhen t NotARecord
RefusedWhen edition t NotASheet = FirstRefusedWhen t NotASheet
RefusedWhen edition t (Dropped p) = Drops edition t p

abbrev When : Edition → List ℕ → Template → Type 0
When edition t (read s) = Accepts edition t s
When edition t (refusal r) = RefusedWhen edition t r

lifted : (edition : Edition) (t : List ℕ) (r : Refusal) → FirstRefusedWhen t r → RefusedWhen edition t r
lifted edition t TemplateTooLong w = w
lifted edition t TemplateNotUtf8 w = w
lifted edition t Failure w = w
lifted edition t NoMessage w = w
lifted edition t TooManySegments w = w
lifted edition t TooDeep w = w
lifted edition t TooWide w = w
lifted edition t TooManyF w = w
lifted edition t HalfEscape w = w
lifted edition t FieldTooLong w = w
lifted edition t FieldNotUtf8 w = w
lifted edition t (LineTooLong n) w = w
lifted edition t NotARecord w = w
lifted edition t NotASheet w = w
lifted edition t (Dropped p) w = absurd w

by_first : (t : List ℕ) (x : Template) → WhenFirst t x → When Edition.First t x
by_first t (read s) w = (w, tt)
by_first t (refusal r) w = lifted Edition.First t r w

by_strict : (t : List ℕ) (x : Template) → WhenFirst t x → (u : Maybe ℕ) → first_of (unused_in (marked t)) ≡ u → When Edition.Strict t (all_used u x)
unfolding all_used
by_strict t (read s) w none e = (w, nothing_unused (unused_in (marked t)) e)
by_strict t (read s) w (some p) e = ((s, w), first_says (unused_in (marked t)) p e)
by_strict t (refusal r) w none e = lifted Edition.Strict t r w
by_strict t (refusal r) w (some p) e = lifted Edition.Strict t r w

template_when : (edition : Edition) (t : List ℕ) → When edition t (read_by edition t)
unfolding read_by
template_when Edition.First t = by_first t (read_template t) (first_when t)
template_when Edition.Strict t = by_strict t (read_template t) (first_when t) (first_of (unused_in (marked t))) refl

pub refused_first : (edition : Edition) (t : List ℕ) (r : Refusal) → read_template t ≡ refusal r → read_by edition t ≡ refusal r
unfolding read_by
refused_first Edition.First t r e = e
refused_first Edition.Strict t r e = ap (all_used (first_of (unused_in (marked t)))) e ∙ refused_alike (first_of (unused_in (marked t))) r

only_dropped : (edition : Edition) (t : List ℕ) (p : ℕ) → Drops edition t p → read_by edition t ≡ refusal (Dropped p)
unfolding read_by all_used
only_dropped Edition.First t p w = absurd w
only_dropped Edition.Strict t p ((s, a), least) =
    ap (all_used (first_of (unused_in (marked t)))) (first_read t s a)
    ∙ ap (λ (u : Maybe ℕ). all_used u (read s)) (first_is (unused_in (marked t)) p least)

pub only_refused : (edition : Edition) (t : List ℕ) (r : Refusal) → RefusedWhen edition t r → read_by edition t ≡ refusal r
only_refused edition t TemplateTooLong w = refused_first edition t TemplateTooLong (first_refused t TemplateTooLong w)
only_refused edition t TemplateNotUtf8 w = refused_first edition t TemplateNotUtf8 (first_refused t TemplateNotUtf8 w)
only_refused edition t Failure w = refused_first edition t Failure (first_refused t Failure w)
only_refused edition t NoMessage w = refused_first edition t NoMessage (first_refused t NoMessage w)
only_refused edition t TooManySegments w = refused_first edition t TooManySegments (first_refused t TooManySegments w)
only_refused edition t TooDeep w = refused_first edition t TooDeep (first_refused t TooDeep w)
only_refused edition t TooWide w = refused_first edition t TooWide (first_refused t TooWide w)
only_refused edition t TooManyF w = refused_first edition t TooManyF (first_refused t TooManyF w)
only_refused edition t HalfEscape w = refused_first edition t HalfEscape (first_refused t HalfEscape w)
only_refused edition t FieldTooLong w = refused_first edition t FieldTooLong (first_refused t FieldTooLong w)
only_refused edition t FieldNotUtf8 w = refused_first edition t FieldNotUtf8 (first_refused t FieldNotUtf8 w)
only_refused edition t (LineTooLong n) w = refused_first edition t (LineTooLong n) (first_refused t (LineTooLong n) w)
only_refused edition t NotARecord w = refused_first edition t NotARecord (first_refused t NotARecord w)
only_refused edition t NotASheet w = refused_first edition t NotASheet (first_refused t NotASheet w)
only_refused edition t (Dropped p) w = only_dropped edition t p w

only_read : (edition : Edition) (t : List ℕ) (s : LogSegments) → Accepts edition t s → read_by edition t ≡ read s
unfolding read_by all_used
only_read Edition.First t s w = first_read t s w.0
only_read Edition.Strict t s w =
    ap (all_used (first_of (unused_in (marked t)))) (first_read t s w.0)
    ∙ ap (λ (u : Maybe ℕ). all_used u (read s)) (used_first (unused_in (marked t)) w.1)

module _ (edition : Edition) (t : List ℕ) where
  pub refused_when : (r : Refusal) → read_by edition t ≡ refusal r → RefusedWhen edition t r
  refused_when r e = subst (When edition t) e (template_when edition t)

  pub accepted : (s : LogSegments) → (read_by edition t ≡ read s) ↔ Accepts edition t s
  accepted s = exactly (When edition t) (read_by edition t) (template_when edition t) (read s) (only_read edition t s)

-- ---- the demand

-- a template is known by its number
read_of : (x : Template) → check_of x ≡ 0 → (s : LogSegments) × (x ≡ read s)
unfolding check_of refusal_told
read_of (read s) e = (s, refl)
read_of (refusal r) e = let z : ⊥ = omega (arith, numbers r, e) in absurd z

-- number and what is told besides are told apart
parted : (q r : Refusal) → refusal_told q ≡ refusal_told r → (number q ≡ number r) × (value_with q ≡ value_with r)
unfolding refusal_told
parted q r e = let a = numbers q in let b = numbers r in (omega (arith, a.1, b.1, e), omega (arith, a.1, b.1, e))

refusal_of : (x : Template) (r : Refusal) → check_of x ≡ refusal_told r → x ≡ refusal r
unfolding check_of refusal_told
refusal_of (read s) r e = let z : ⊥ = omega (arith, numbers r, e) in absurd z
refusal_of (refusal q) r e = let k = parted q r e in ap refusal (one_number q r k.0 k.1)

-- 1 to 9, or 17 with its place
two_kinds : (x : Template) → ((r : Refusal) → x ≡ refusal r → (number r ≤ 9) ⊎ ((p : ℕ) × (r ≡ Dropped p))) → (check_of x ≤ 9) ⊎ ((p : ℕ) × (check_of x ≡ 17 + 256 * p))
unfolding check_of refusal_told
two_kinds (read s) h = inl (omega arith)
two_kinds (refusal r) h = by (h r refl)
  where
    by : (number r ≤ 9) ⊎ ((p : ℕ) × (r ≡ Dropped p)) → (number r + 256 * value_with r ≤ 9) ⊎ ((p : ℕ) × (number r + 256 * value_with r ≡ 17 + 256 * p))
    by (inl k) = inl (omega (arith, unsized r k, k))
    by (inr (p, e)) = inr (p, ap (λ (q : Refusal). number q + 256 * value_with q) e)

module _ (edition : Edition) (t : List ℕ) where
  kinds : (r : Refusal) → read_by edition t ≡ refusal r → (number r ≤ 9) ⊎ ((p : ℕ) × (r ≡ Dropped p))
  kinds r e = by (refused_by edition t r e)
    where
      by : OfTemplate (length t) r → (number r ≤ 9) ⊎ ((p : ℕ) × (r ≡ Dropped p))
      by (inl h) = inl h
      by (inr (p, q, h, l)) = inr (p, q)

  inside : (p : ℕ) → Drops edition t p → p < length t
  inside p w = by (refused_by edition t (Dropped p) (only_dropped edition t p w))
    where
      by : OfTemplate (length t) (Dropped p) → p < length t
      by (inl h) = let z : ⊥ = omega arith in absurd z
      by (inr (q, e, h, l)) = let k : p ≡ q = ap value_with e in omega arith

  pub template_demand1 : TemplateDemand1 edition t
  unfolding check_of refusal_told
  template_demand1 =
      let x = read_by edition t in
      let no : (r : Refusal) → (template_number edition t ≡ refusal_told r) ↔ RefusedWhen edition t r =
      λ r. numbered (When edition t) x (template_when edition t) check_of (refusal r) (refusal_of x r) (only_refused edition t r) in
      let two = two_kinds x kinds in
      record {
        is_0 = (
          (λ e. let s = read_of x e in (s.0, (accepted edition t s.0).0 s.1)),
          (λ w. ap check_of ((accepted edition t w.0).1 w.1)),
        );
        accepted = accepted edition t;
        is_1 = no TemplateTooLong;
        is_2 = no TemplateNotUtf8;
        is_3 = no Failure;
        is_4 = no NoMessage;
        is_5 = no TooManySegments;
        is_6 = no TooDeep;
        is_7 = no TooWide;
        is_8 = no TooManyF;
        is_9 = no HalfEscape;
        never_10 = not_ten two;
        is_17 = λ p. no (Dropped p);
        inside = inside;
        numbered = two;
      }
    where
      not_ten : (template_number edition t ≤ 9) ⊎ ((p : ℕ) × (template_number edition t ≡ 17 + 256 * p)) → template_number edition t ≡ 10 → ⊥
      not_ten (inl h) e = omega arith
      not_ten (inr (p, h)) e = omega arith

-- ---- whether it names the time

module _ (edition : Edition) (t : List ℕ) where
  told : (x : Template) → (check_of x ≡ 0 → ⊥) → timestamp_of x ≡ check_of x
  unfolding timestamp_of check_of
  told (read s) h = absurd (h refl)
  told (refusal r) h = refl

  -- the answer n stands for the yes or no b
  abbrev Stands : ℕ → Bool → Type 0
  Stands n true = n ≡ 256
  Stands n false = n ≡ 0

  named : (b : Bool) (x : Template) → Stands (timestamp_of x) b → (s : LogSegments) × (x ≡ read s) × (names_timestamp s ≡ b)
  unfolding timestamp_of refusal_told
  named b (read s) e = (s, refl, by b (names_timestamp s) e)
    where
      by : (b c : Bool) → Stands (elim c [ true ↦ 256 | false ↦ 0 ]) b → c ≡ b
      by true true e = refl
      by false false e = refl
      by true false e = let z : ⊥ = omega arith in absurd z
      by false true e = let z : ⊥ = omega arith in absurd z
  named true (refusal r) e = let z : ⊥ = omega (arith, numbers r, e) in absurd z
  named false (refusal r) e = let z : ⊥ = omega (arith, numbers r, e) in absurd z

  answered : (b : Bool) (s : LogSegments) → read_by edition t ≡ read s → names_timestamp s ≡ b → Stands (timestamp_of (read_by edition t)) b
  unfolding timestamp_of
  answered true s e k = ap timestamp_of e ∙ (rw (k, timestamp_of))
  answered false s e k = ap timestamp_of e ∙ (rw (k, timestamp_of))

  asked : (b : Bool) → Stands (timestamp_of (read_by edition t)) b ↔ ((s : LogSegments) × Accepts edition t s × (names_timestamp s ≡ b))
  asked b = (
    (λ e. let n = named b (read_by edition t) e in (n.0, (accepted edition t n.0).0 n.1, n.2)),
    (λ w. answered b w.0 ((accepted edition t w.0).1 w.1) w.2),
  )

  pub timestamp_demand1 : TimestampDemand1 edition t
  timestamp_demand1 = record { told = told (read_by edition t); yes = asked true; no = asked false }

-- ---- the calls about a template alone

module _ (t : List ℕ) (settings : ℕ) where
  asked_known : settings < 32 → template_asked settings t ≡ read_by (edition_of settings) t
  unfolding template_asked is_known
  asked_known h = rw (lt-ltb settings 32 h, template_asked)

  asked_unknown : 32 ≤ settings → template_asked settings t ≡ refusal NotASheet
  unfolding template_asked is_known
  asked_unknown h = rw (le-ltb settings 32 h, template_asked)

  -- no template is refused with 15
  not_15 : (x : Template) → ((r : Refusal) → x ≡ refusal r → (number r ≤ 9) ⊎ ((p : ℕ) × (r ≡ Dropped p))) → (check_of x ≡ 15 → ⊥) × (timestamp_of x ≡ 15 → ⊥)
  unfolding check_of timestamp_of refusal_told
  not_15 (read s) h = ((λ e. omega (arith, e)), by (names_timestamp s))
    where
      by : (b : Bool) → ◌≡◌ {A = ℕ} (elim b [ true ↦ 256 | false ↦ 0 ]) 15 → ⊥
      by true e = omega arith
      by false e = omega arith
  not_15 (refusal r) h = (by (h r refl), by (h r refl))
    where
      by : (number r ≤ 9) ⊎ ((p : ℕ) × (r ≡ Dropped p)) → number r + 256 * value_with r ≡ 15 → ⊥
      by (inl k) e = omega (arith, unsized r k, k, e)
      by (inr (p, q)) e = let z : number r ≡ 17 = ap number q in omega (arith, z, e)

  -- where one of the two answers is 15, the byte is not known
  only_15 : (f : Template → ℕ) → (f (read_by (edition_of settings) t) ≡ 15 → ⊥) → f (template_asked settings t) ≡ 15 → 32 ≤ settings
  only_15 f h e = by (ltb settings 32) refl
    where
      by : (b : Bool) → ltb settings 32 ≡ b → 32 ≤ settings
      by true k = absurd (h (ap f (sym (asked_known (ltb-true settings 32 k))) ∙ e))
      by false k = ltb-false settings 32 k

  pub check_demand1 : CheckDemand1 t settings
  unfolding check_of timestamp_of refusal_told
  check_demand1 =
      let no = not_15 (read_by (edition_of settings) t) (kinds (edition_of settings) t) in
      record {
        is_15 = (only_15 check_of no.0, (λ h. ap check_of (asked_unknown h)));
        checked = λ h. ap check_of (asked_known h);
        timestamp_15 = (only_15 timestamp_of no.1, (λ h. ap timestamp_of (asked_unknown h)));
        asked = λ h. ap timestamp_of (asked_known h);
      }
