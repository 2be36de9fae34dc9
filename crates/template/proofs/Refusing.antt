-- Which refusals a template can meet: reading meets 3 and 5 to 9, and a whole template 1, 2 and 4 besides. Assumes nothing.
use Prim.Native.Nat.{ℕ, zero, suc, ◌+◌, ◌-◌, ◌≤◌, ◌<◌}
use mathlib.Core.Path.{◌≡◌, refl, ap, subst}
use mathlib.Core.Bool.{Bool, true, false, not, ◌||◌}
use mathlib.Core.List.{List}
use mathlib.Core.Logic.{◌⊎◌, inl, inr}
use native.Mathlib.Omega.{arith}
use lib.Dec.{leb, ltb, eqb}
use lib.ListN.{length, replicate, get_or}
use borrow.Author.Tests.{leb-true}
use Rattle.std.specs.Prelude.{Some, None, Ok, Err}
use Rattle.buffer.specs.Bytes.{part, same}
use Rattle.buffer.specs.Table.{Maybe, none, some, lookup}
use Rattle.utf8.specs.Utf8.{valid}
use Rattle.refusals.specs.declared.Refusal.{Refusal}
use Rattle.refusals.specs.declared.Refusal.TheVariants.{TemplateTooLong, TemplateNotUtf8, Failure, NoMessage, TooManySegments, TooDeep, TooWide, TooManyF, HalfEscape, FieldTooLong, FieldNotUtf8, LineTooLong, NotARecord, NotASheet, Dropped}
use Rattle.words.specs.declared.LogMetadata.{LogMetadata}
use Rattle.words.specs.declared.Alignment.{Alignment}
use Rattle.letters.specs.Marked.{marked}
use Rattle.runs.specs.Runs.{stands, run_end, letters_end, digits_end, decimal}
use Rattle.words.specs.Trying.{Tried, fit, misfit, refused, ◌or_else◌, ◌then◌, while_it_fits, repeated, further, listed}
use Rattle.words.specs.Words.{Sense, stands_for, nothing, not_allowed, sense, specifiers, count_of_f, repeated_f, or_repeated_f, specifier_of, parameter_of, sensed, name_to, name, specifier_at, width_of, digits_to, aligned, alignments, byte_at, width_at, parameter_at}
use Rattle.segments.specs.Segments.{LogSegment, LogSegments, any_specifier, is_log, named_among}
use Rattle.segments.specs.Segments as segments
use Rattle.parts.specs.declared.Parts.{Parts}
use Rattle.parts.specs.Parts.{no_parts, has_specifier, segment_of}
use Rattle.braces.specs.Braces.{Closing, Mark, opens, closes, escapes, neither, mark_of, past_mark, closing}
use Rattle.building.specs.Reading.{Made, Reader, make, make_or, text_to, text_at, plain_byte, word_at, inner_at, Taken, one, several, Content, odd_item, even_item, built, no_content, item_at, separator, content_at, Group, percent_at, piece_at, closed, no_group, group_at, brace_to, brace_at, inside_at, Top, top_at}
use Rattle.building.specs.Reading as building
use Rattle.template.specs.Template.{Template, read, refusal, with_message, reading, ended, top_level, read_template, all_used, read_by}
use Rattle.refusals.specs.Numbers.{number, value_with}
use Rattle.letters.proofs.Marks.{marked_length}
use Rattle.unused.specs.Unused.{first_of, unused_in}
use Rattle.unused.proofs.Inside.{all_inside, first_inside}
use Rattle.template.specs.declared.Edition.{Edition}

-- ---- the refusals

-- 3 and 5 to 9
abbrev pub ByReading : Refusal → Type 0
ByReading TemplateTooLong = ⊥
ByReading TemplateNotUtf8 = ⊥
ByReading Failure = Unit {0}
ByReading NoMessage = ⊥
ByReading TooManySegments = Unit {0}
ByReading TooDeep = Unit {0}
ByReading TooWide = Unit {0}
ByReading TooManyF = Unit {0}
ByReading HalfEscape = Unit {0}
ByReading FieldTooLong = ⊥
ByReading FieldNotUtf8 = ⊥
ByReading (LineTooLong n) = ⊥
ByReading NotARecord = ⊥
ByReading NotASheet = ⊥
ByReading (Dropped p) = ⊥

-- ---- attempts

abbrev Met : {A : Type 0} → Tried A → Type 0
Met (fit a j) = Unit {0}
Met misfit = Unit {0}
Met (refused r) = ByReading r

choice : {A : Type 0} (b : Bool) (x y : Tried A) → Met x → Met y → Met {A = A} (elim b [ true ↦ x | false ↦ y ])
choice true x y h g = h
choice false x y h g = g

either_way : {A : Type 0} (x : Tried A) (k : Unit {0} → Tried A) → Met x → Met (k tt) → Met (x or_else k)
unfolding ◌or_else◌
either_way (fit a j) k h g = tt
either_way misfit k h g = g
either_way (refused r) k h g = h

followed : {A B : Type 0} (x : Tried A) (k : A → ℕ → Tried B) → Met x → ((a : A) (j : ℕ) → Met (k a j)) → Met (x then k)
unfolding ◌then◌
followed (fit a j) k h g = g a j
followed misfit k h g = tt
followed (refused r) k h g = h

onward : {S : Type 0} (x : Tried S) (k : ℕ → S → Tried S) (i : ℕ) (s : S) → Met x → ((j : ℕ) (u : S) → Met (k j u)) → Met (while_it_fits x k i s)
unfolding while_it_fits
onward (fit u j) k i s h g = g j u
onward misfit k i s h g = tt
onward (refused r) k i s h g = h

module _ {S : Type 0} (item : ℕ → S → Tried S) (h : (i : ℕ) (s : S) → Met (item i s)) where
  repeats : (n i : ℕ) (s : S) → Met (repeated item n i s)
  unfolding repeated
  repeats zero i s = tt
  repeats (suc n) i s = onward (item i s) (repeated item n) i s (h i s) (repeats n)

  furthers : (b : ℕ) (t : List ℕ) (e n i : ℕ) (s : S) → Met (further b t e item n i s)
  unfolding further
  furthers b t e zero i s = tt
  furthers b t e (suc n) i s =
      choice (stands b t i e) (while_it_fits (item (i + 1) s) (further b t e item n) i s) (fit s i)
      (onward (item (i + 1) s) (further b t e item n) i s (h (i + 1) s) (furthers b t e n)) tt

  lists : (b : ℕ) (t : List ℕ) (e i : ℕ) (s : S) → Met (listed b t e item i s)
  unfolding listed
  lists b t e i s = followed (item i s) _ (h i s) (λ u j. furthers b t e (e - i) j u)

-- ---- words

abbrev Senses : {A : Type 0} → Sense A → Type 0
Senses (stands_for a) = Unit {0}
Senses nothing = Unit {0}
Senses (not_allowed r) = ByReading r

sensed_met : {A : Type 0} (j : ℕ) (x : Sense A) → Senses x → Met (sensed j x)
unfolding sensed
sensed_met j (stands_for a) h = tt
sensed_met j nothing h = tt
sensed_met j (not_allowed r) h = h

sense_plain : {A : Type 0} (m : Maybe A) → Senses (sense m)
unfolding sense
sense_plain none = tt
sense_plain (some a) = tt

sense_choice : {A : Type 0} (b : Bool) (x y : Sense A) → Senses x → Senses y → Senses {A = A} (elim b [ true ↦ x | false ↦ y ])
sense_choice true x y h g = h
sense_choice false x y h g = g

file_name_lem : (n : ℕ) → Senses (count_of_f n)
unfolding count_of_f
file_name_lem zero = tt
file_name_lem (suc n) = sense_choice (leb (suc n) 255) (stands_for (LogMetadata.FileName (suc n))) (not_allowed Refusal.TooManyF) tt tt

repeated_f_lem : (w : List ℕ) → Senses (repeated_f w)
unfolding repeated_f
repeated_f_lem w = sense_choice (same (replicate (length w) 0x66) w) (count_of_f (length w)) nothing (file_name_lem (length w)) tt

or_repeated : (w : List ℕ) (m : Maybe LogMetadata) → Senses (or_repeated_f w m)
unfolding or_repeated_f
or_repeated w none = repeated_f_lem w
or_repeated w (some m) = tt

specifier_sense : (w : List ℕ) → Senses (specifier_of w)
unfolding specifier_of
specifier_sense w = or_repeated w (lookup specifiers w)

parameter_sense : (w : List ℕ) → Senses (parameter_of w)
unfolding parameter_of
parameter_sense w = sense_plain _

name_met : {A : Type 0} (f : List ℕ → Sense A) → ((w : List ℕ) → Senses (f w)) → (t : List ℕ) (i e : ℕ) → Met (name f t i e)
unfolding name name_to
name_met f h t i e = let j = letters_end t i e in sensed_met j (f (part i j t)) (h (part i j t))

specifier_met : (t : List ℕ) (i e : ℕ) → Met (specifier_at t i e)
unfolding specifier_at
specifier_met t i e = name_met specifier_of specifier_sense t i e

digits_met : (a : Alignment) (t : List ℕ) (i j : ℕ) → Met (digits_to a t i j)
unfolding digits_to width_of
digits_met a t i j = choice (ltb i j) _ misfit (choice (leb (decimal 0 (part i j t)) 512) _ (refused Refusal.TooWide) tt tt) tt

aligned_met : (t : List ℕ) (i e : ℕ) (m : Maybe Alignment) → Met (aligned t i e m)
unfolding aligned
aligned_met t i e none = digits_met Alignment.Left t i (digits_end t i e)
aligned_met t i e (some a) = digits_met a t (i + 1) (digits_end t (i + 1) e)

parameter_met : (t : List ℕ) (i e : ℕ) → Met (parameter_at t i e)
unfolding parameter_at width_at
parameter_met t i e = either_way (name parameter_of t i e) _ (name_met parameter_of parameter_sense t i e) (aligned_met t i e (lookup alignments (byte_at t i e)))

-- ---- segments

make_met : (x : LogSegment) (n j : ℕ) → Met (make x n j)
unfolding make
make_met x n j = choice (ltb n 64) _ (refused Refusal.TooManySegments) tt tt

make_or_lem : (o : Tried Made) (n j : ℕ) (m : Maybe LogSegment) → Met o → Met (make_or o n j m)
unfolding make_or
make_or_lem o n j none h = h
make_or_lem o n j (some x) h = make_met x n j

text_met : (t : List ℕ) (i e n : ℕ) → Met (text_at t i e n)
unfolding text_at text_to
text_met t i e n = let j = run_end plain_byte t (e - i) i in choice (ltb i j) (make (segments.text i j) n j) misfit (make_met (segments.text i j) n j) tt

word_met : (t : List ℕ) (e i : ℕ) (p : Parts) → Met (word_at t e i p)
unfolding word_at
word_met t e i p =
    either_way _ _ (followed (specifier_at t i e) _ (specifier_met t i e) (λ m j. tt)) (followed (parameter_at t i e) _ (parameter_met t i e) (λ a j. tt))

inner_met : (t : List ℕ) (i e n : ℕ) → Met (inner_at t i e n)
unfolding inner_at
inner_met t i e n = followed (listed 0x3A t e (word_at t e) i no_parts) _ (lists (word_at t e) (word_met t e) 0x3A t e i no_parts) (λ p j. make_or_lem misfit n j (segment_of p) tt)

-- ---- the search for a closing brace

abbrev Closes : Closing → Type 0
Closes (Ok c) = Unit {0}
Closes (Err r) = ByReading r

past_met : (onward : ℕ → Bool → Closing) → ((k : ℕ) (skip : Bool) → Closes (onward k skip)) → (i k : ℕ) (m : Mark) → Closes (past_mark onward i k m)
unfolding past_mark
past_met onward h i k opens = h (k + 1) false
past_met onward h i k closes = by (eqb k 0)
  where
    by : (b : Bool) → Closes (elim b [ true ↦ Ok (Some i) | false ↦ onward (k - 1) false ])
    by true = tt
    by false = h (k - 1) false
past_met onward h i k escapes = h k true
past_met onward h i k neither = h k false

closing_met : (t : List ℕ) (n i k : ℕ) (skip : Bool) → Closes (closing t n i k skip)
unfolding closing
closing_met t zero i k true = tt
closing_met t zero i k false = tt
closing_met t (suc n) i k true = closing_met t n (i + 1) k false
closing_met t (suc n) i k false = past_met (closing t n (i + 1)) (λ k' skip. closing_met t n (i + 1) k' skip) i k (mark_of (get_or t i 0))

-- ---- contents, groups and braces

abbrev Reads : Reader → Type 0
Reads f = (i e n : ℕ) → Met (f i e n)

built_met : (p : Parts) (n j : ℕ) (k : Taken) → Met (built p n j k)
unfolding built
built_met p n j building.nothing = make_or_lem (refused Refusal.Failure) n j (segment_of p) tt
built_met p n j (one x) = choice (p.twice || has_specifier p.metadata) (refused Refusal.Failure) _ tt tt
built_met p n j several = tt

module _ (t : List ℕ) where
  item_met : (even : Bool) (f : Reader) → Reads f → (e i : ℕ) (c : Content) → Met (item_at even t f e i c)
  unfolding item_at even_item odd_item
  item_met true f h e i c =
      either_way _ _ (followed (inner_at t i e c.made) _ (inner_met t i e c.made) (λ x j. tt))
      (either_way _ _ (followed (parameter_at t i e) _ (parameter_met t i e) (λ a j. tt)) (followed (f i e c.made) _ (h i e c.made) (λ x j. tt)))
  item_met false f h e i c =
      either_way _ _ (followed (word_at t e i c.parts) _ (word_met t e i c.parts) (λ p j. tt)) (followed (f i e c.made) _ (h i e c.made) (λ x j. tt))

  content_met : (even : Bool) (f : Reader) → Reads f → Reads (content_at even t f)
  unfolding content_at
  content_met even f h i e n =
      followed (listed (separator even) t e (item_at even t f e) i (no_content n)) _
      (lists (item_at even t f e) (item_met even f h e) (separator even) t e i (no_content n))
      (λ c j. built_met c.parts c.made j c.taken)

  percent_met : (i e : ℕ) → Met (percent_at t i e)
  unfolding percent_at
  percent_met i e = choice (stands 0x25 t i e) _ misfit (either_way (parameter_at t (i + 1) e) _ (parameter_met t (i + 1) e) tt) tt

  piece_met : (f : Reader) → Reads f → (e i : ℕ) (g : Group) → Met (piece_at t f e i g)
  unfolding piece_at
  piece_met f h e i g =
      either_way _ _ (followed (f i e g.made) _ (h i e g.made) (λ x j. tt))
      (either_way _ _ (followed (text_at t i e g.made) _ (text_met t i e g.made) (λ x j. tt)) (followed (percent_at t i e) _ (percent_met i e) (λ a j. tt)))

  closed_met : (g : Group) (j : ℕ) → Met (closed g j)
  unfolding closed
  closed_met g j =
      choice g.parts.twice (refused Refusal.Failure) _ tt
      (choice (any_specifier g.members) (make (segments.group g.members g.parts.format) g.made j) (refused Refusal.Failure) (make_met (segments.group g.members g.parts.format) g.made j) tt)

  group_met : (f : Reader) → Reads f → Reads (group_at t f)
  unfolding group_at
  group_met f h i e n = followed (repeated (piece_at t f e) (e - i) i (no_group n)) closed (repeats (piece_at t f e) (piece_met f h e) (e - i) i (no_group n)) closed_met

  brace_to_lem : (f : Reader) → Reads f → (i n : ℕ) (k : Closing) → Closes k → Met (brace_to f i n k)
  unfolding brace_to
  brace_to_lem f h i n (Ok (Some c)) g = followed (f (i + 1) c n) _ (h (i + 1) c n) (λ x j. tt)
  brace_to_lem f h i n (Ok None) g = tt
  brace_to_lem f h i n (Err r) g = g

  brace_met : (f : Reader) → Reads f → Reads (brace_at t f)
  unfolding brace_at
  brace_met f h i e n = let k = closing t (e - (i + 1)) (i + 1) 0 false in choice (stands 0x7B t i e) (brace_to f i n k) misfit (brace_to_lem f h i n k (closing_met t (e - (i + 1)) (i + 1) 0 false)) tt

  inside_met : (d : ℕ) (even : Bool) → Reads (inside_at d even t)
  unfolding inside_at
  inside_met zero even i e n = tt
  inside_met (suc d) even i e n =
      let f = inside_at d (not even) t in
      content_met even (group_at t (brace_at t f)) (group_met (brace_at t f) (brace_met f (inside_met d (not even)))) i e n

  top_met : (e i : ℕ) (s : Top) → Met (top_at t e i s)
  unfolding top_at
  top_met e i s =
      either_way _ _ (followed (brace_at t (inside_at 8 false t) i e s.made) _ (brace_met (inside_at 8 false t) (inside_met 8 false) i e s.made) (λ x j. tt))
      (followed (text_at t i e s.made) _ (text_met t i e s.made) (λ x j. tt))

-- ---- the whole template

reading_met : (t : List ℕ) → Met (reading t)
reading_met t = repeats (top_at t (length t)) (top_met t (length t)) (length t) 0 _

-- what stops reading is 3 or 5 to 9
pub reading_refuses : (t : List ℕ) (r : Refusal) → reading t ≡ refused r → ByReading r
reading_refuses t r e = subst Met e (reading_met t)

to_nine : (r : Refusal) → ByReading r → number r ≤ 9
to_nine Failure h = omega arith
to_nine TooManySegments h = omega arith
to_nine TooDeep h = omega arith
to_nine TooWide h = omega arith
to_nine TooManyF h = omega arith
to_nine HalfEscape h = omega arith
to_nine TemplateTooLong h = absurd h
to_nine TemplateNotUtf8 h = absurd h
to_nine NoMessage h = absurd h
to_nine FieldTooLong h = absurd h
to_nine FieldNotUtf8 h = absurd h
to_nine (LineTooLong n) h = absurd h
to_nine NotARecord h = absurd h
to_nine NotASheet h = absurd h
to_nine (Dropped p) h = absurd h

abbrev Told : Template → Type 0
Told (read s) = Unit {0}
Told (refusal r) = number r ≤ 9

told_choice : (b : Bool) (x y : Template) → Told x → Told y → Told (elim b [ true ↦ x | false ↦ y ])
told_choice true x y h g = h
told_choice false x y h g = g

message_told : (s : LogSegments) → Told (with_message s)
unfolding with_message
message_told s = told_choice (named_among is_log s) (read s) (refusal NoMessage) tt (omega arith)

ended_told : (x : Tried Top) → Met x → Told (ended x)
unfolding ended
ended_told (fit s j) h = message_told s.segments
ended_told misfit h = message_told segments.none
ended_told (refused r) h = to_nine r h

template_told : (t : List ℕ) → Told (read_template t)
unfolding read_template top_level
template_told t =
    told_choice (leb (length t) 1024) _ (refusal TemplateTooLong)
    (told_choice (valid t) (top_level (marked t)) (refusal TemplateNotUtf8) (ended_told (reading (marked t)) (reading_met (marked t))) (omega arith))
    (omega arith)

-- what refuses a template is 1 to 9
pub template_refuses : (t : List ℕ) (r : Refusal) → read_template t ≡ refusal r → number r ≤ 9
template_refuses t r e = subst Told e (template_told t)

-- and tells no length: of all refusals only that of a line that is too long does
pub unsized : (r : Refusal) → number r ≤ 9 → value_with r ≡ 0
unsized TemplateTooLong h = refl
unsized TemplateNotUtf8 h = refl
unsized Failure h = refl
unsized NoMessage h = refl
unsized TooManySegments h = refl
unsized TooDeep h = refl
unsized TooWide h = refl
unsized TooManyF h = refl
unsized HalfEscape h = refl
unsized FieldTooLong h = refl
unsized FieldNotUtf8 h = refl
unsized (LineTooLong n) h = let z : ⊥ = omega arith in absurd z
unsized NotARecord h = refl
unsized NotASheet h = refl
unsized (Dropped p) h = let z : ⊥ = omega arith in absurd z

-- ---- by either edition

-- a template that is read is short
first_short : (t : List ℕ) (s : LogSegments) → read_template t ≡ read s → length t ≤ 1024
unfolding read_template
first_short t s e = by (leb (length t) 1024) refl _ e
  where
    by : (b : Bool) → leb (length t) 1024 ≡ b → (x : Template) → ◌≡◌ {A = Template} (elim b [ true ↦ x | false ↦ refusal TemplateTooLong ]) (read s) → length t ≤ 1024
    by true h x k = leb-true (length t) 1024 h
    by false h x k = absurd (let z : ◌≡◌ {A = ℕ} 0 1 = cc in let y : ⊥ = omega arith in y)

-- what is read strictly was read
pub used_read : (u : Maybe ℕ) (x : Template) (s : LogSegments) → all_used u x ≡ read s → (x ≡ read s) × (u ≡ none)
unfolding all_used
used_read none x s e = (e, refl)
used_read (some p) (read x) s e = (cc, cc)
used_read (some p) (refusal r) s e = (cc, cc)

pub read_short : (edition : Edition) (t : List ℕ) (s : LogSegments) → read_by edition t ≡ read s → length t ≤ 1024
unfolding read_by
read_short Edition.First t s e = first_short t s e
read_short Edition.Strict t s e = first_short t s (used_read (first_of (unused_in (marked t))) (read_template t) s e).0

-- 1 to 9; or 17, whose place lies in the template
abbrev pub OfTemplate : ℕ → Refusal → Type 0
OfTemplate n r = (number r ≤ 9) ⊎ ((p : ℕ) × (r ≡ Dropped p) × (p < n) × (n ≤ 1024))

judged_told : (t : List ℕ) (x : Template) → ((r : Refusal) → x ≡ refusal r → number r ≤ 9) → ((s : LogSegments) → x ≡ read s → length t ≤ 1024)
    → (u : Maybe ℕ) → ((p : ℕ) → u ≡ some p → p < length t) → (r : Refusal) → all_used u x ≡ refusal r → OfTemplate (length t) r
unfolding all_used
judged_told t x h l none g r e = inl (h r e)
judged_told t (read s) h l (some p) g r e = inr (p, (let q : r ≡ Dropped p = cc in q), g p refl, l s refl)
judged_told t (refusal k) h l (some p) g r e = inl (h r e)

pub refused_by : (edition : Edition) (t : List ℕ) (r : Refusal) → read_by edition t ≡ refusal r → OfTemplate (length t) r
unfolding read_by
refused_by Edition.First t r e = inl (template_refuses t r e)
refused_by Edition.Strict t r e =
    judged_told t (read_template t) (template_refuses t) (first_short t) (first_of (unused_in (marked t)))
    (λ p q. subst (λ (n : ℕ). p < n) (marked_length t) (first_inside (length (marked t)) (unused_in (marked t)) (all_inside (marked t)) p q)) r e

-- what comes with its number is small
pub small_value : (n : ℕ) (r : Refusal) → OfTemplate n r → value_with r ≤ 1024
small_value n r (inl h) = let z = unsized r h in omega arith
small_value n r (inr (p, q, h, l)) = let z : value_with r ≡ p = ap value_with q in omega arith
