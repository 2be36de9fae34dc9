-- The second look agrees with the readers that note what they leave unused: of a template that was read it gives the first place of all. Assumes nothing.
use Prim.Native.Nat.{ℕ, zero, suc, ◌+◌, ◌-◌}
use mathlib.Core.Path.{◌≡◌, refl, sym, ap, subst, ◌∙◌}
use mathlib.Core.Bool.{Bool, true, false, not, ◌||◌}
use mathlib.Core.List.{List, [], ◌++◌}
use native.Mathlib.Omega.{arith}
use lib.Dec.{ltb}
use lib.ListN.{length}
use Rattle.std.specs.Prelude.{Some, None, Ok, Err}
use Rattle.buffer.specs.Bytes.{byte}
use Rattle.buffer.specs.Table.{Maybe, none, some}
use Rattle.refusals.specs.declared.Refusal.{Refusal}
use Rattle.runs.specs.Runs.{stands, run_end}
use Rattle.words.specs.Trying.{Tried, fit, misfit, refused, ◌or_else◌, ◌then◌, repeated, listed}
use Rattle.words.specs.Words.{specifier_at, parameter_at}
use Rattle.parts.specs.declared.Parts.{Parts}
use Rattle.parts.specs.Parts.{no_parts, segment_of, has_specifier}
use Rattle.segments.specs.Segments.{LogSegment, text, group, any_specifier}
use Rattle.braces.specs.Braces.{Closing, closing}
use Rattle.building.specs.Reading.{Made, make, make_or, plain_byte, text_to, text_at, word_at, inner_at, Taken, nothing, one, several, taking, with_segment, with_words, built, no_content, separator, Group, with_asked, percent_at, closed, no_group, Top}
use Rattle.endings.specs.Ending.{Ends, end_of, or_end}
use Rattle.unused.specs.Unused.{Unused, sooner, first_of, dropped_from, all_lost, lost_with, Noted, noted, NotedReader, NotedContent, asked_from, with_noted, named_at, asked_at, item_noted, unused_by, nothing_noted, content_noted, with_noted_member, piece_noted, group_noted, brace_noted_to, brace_noted, inside_noted, top_noted, unused_up_to, reading_noted, unused_in}
use Rattle.unused.specs.Looking.{reaches, Sight, Looker, worded, asking_from, grouping, look_item, lost_if, left_by_content, no_sight, look_content, look_piece, look_group, look_brace_to, look_brace, look_inside, look_top, left_up_to, tops_looked, left_over, WasRead}
use Rattle.unused.proofs.Agreeing.{Agrees, agrees_or, agrees_then, agrees_if, agrees_repeated, agrees_listed}
use Rattle.unused.proofs.Forgetting.{seen, tops_are}
use Rattle.unused.proofs.Places.{sooner_none, first_joined}

-- the first place that something read leaves unused
abbrev note : {A : Type 0} → Noted A → Maybe ℕ
note x = first_of x.unused

-- ---- what fits ends where the second look finds its end

module _ {S U : Type 0} (f : S → U) (u : U) where
  ends_agree : {A : Type 0} (x : Tried A) (k : A → S) → ((a : A) → f (k a) ≡ u) → Agrees f (x then λ a j. fit (k a) j) (reaches (end_of x) u)
  unfolding Agrees ◌then◌
  ends_agree (fit a j) k h = ap (λ (z : U). fit z j) (sym (h a))
  ends_agree misfit k h = refl
  ends_agree (refused r) k h = tt

  module _ (k : Made → S) (h : (a : Made) → f (k a) ≡ u) where
    -- a segment that is made, however many are made before
    room_agrees : (b : Bool) (a : Made) (j : ℕ)
        → Agrees f ((elim b as (λ _. Tried Made) [ true ↦ fit a j | false ↦ refused Refusal.TooManySegments ]) then λ a j. fit (k a) j) (fit u j)
    unfolding Agrees ◌then◌
    room_agrees true a j = ap (λ (z : U). fit z j) (sym (h a))
    room_agrees false a j = tt

    make_agrees : (x : LogSegment) (made j : ℕ) → Agrees f (make x made j then λ a j. fit (k a) j) (reaches (end_of (make x 0 j)) u)
    unfolding make
    make_agrees x made j = room_agrees (ltb made 64) (record { segment = x; made = made + 1 }) j

    maybe_agrees : (m : Maybe LogSegment) (made j : ℕ) → Agrees f (make_or misfit made j m then λ a j. fit (k a) j) (reaches (end_of (make_or misfit 0 j m)) u)
    unfolding make_or Agrees ◌then◌
    maybe_agrees none made j = refl
    maybe_agrees (some x) made j = make_agrees x made j

    words_agree : (x : Tried Parts) (made : ℕ)
        → Agrees f ((x then λ p j. make_or misfit made j (segment_of p)) then λ a j. fit (k a) j) (reaches (end_of (x then λ p j. make_or misfit 0 j (segment_of p))) u)
    unfolding Agrees ◌then◌
    words_agree (fit p j) made = maybe_agrees (segment_of p) made j
    words_agree misfit made = refl
    words_agree (refused r) made = tt

    pub inner_agrees : (t : List ℕ) (i e made : ℕ) → Agrees f (inner_at t i e made then λ a j. fit (k a) j) (reaches (end_of (inner_at t i e 0)) u)
    unfolding inner_at
    inner_agrees t i e made = words_agree (listed 0x3A t e (word_at t e) i no_parts) made

    long_agrees : (b : Bool) (x : LogSegment) (made j : ℕ)
        → Agrees f ((elim b as (λ _. Tried Made) [ true ↦ make x made j | false ↦ misfit ]) then λ a j. fit (k a) j)
        (reaches (end_of {A = Made} (elim b as (λ _. Tried Made) [ true ↦ make x 0 j | false ↦ misfit ])) u)
    unfolding Agrees ◌then◌
    long_agrees true x made j = make_agrees x made j
    long_agrees false x made j = refl

    pub text_agrees : (t : List ℕ) (i e made : ℕ) → Agrees f (text_at t i e made then λ a j. fit (k a) j) (reaches (end_of (text_at t i e 0)) u)
    unfolding text_at text_to
    text_agrees t i e made = let j = run_end plain_byte t (e - i) i in long_agrees (ltb i j) (text i j) made j

-- ---- what contents and groups add up to fits at the end or is refused

unfoldable Settles : Tried Made → ℕ → Type 0
Settles (fit a k) j = k ≡ j
Settles misfit j = ⊥
Settles (refused r) j = Unit {0}

settled_agrees : (x : Tried Made) (u : List Unused) (v : Maybe ℕ) (j : ℕ) → Settles x j → v ≡ first_of u → Agrees (λ (y : Noted Made). note y) (x then λ y k. fit (noted y u) k) (fit v j)
unfolding Settles Agrees ◌then◌
settled_agrees (fit a k) u v j p q = ap (λ (z : Maybe ℕ). fit z j) q ∙ ap (fit (first_of u)) (sym p)
settled_agrees misfit u v j p q = absurd p
settled_agrees (refused r) u v j p q = tt

make_settles : (x : LogSegment) (made j : ℕ) → Settles (make x made j) j
unfolding make Settles
make_settles x made j = by (ltb made 64)
  where
    by : (b : Bool) → Settles (elim b as (λ _. Tried Made) [ true ↦ fit (record { segment = x; made = made + 1 }) j | false ↦ refused Refusal.TooManySegments ]) j
    by true = refl
    by false = tt

maybe_settles : (m : Maybe LogSegment) (made j : ℕ) → Settles (make_or (refused Refusal.Failure) made j m) j
unfolding make_or Settles
maybe_settles none made j = tt
maybe_settles (some x) made j = make_settles x made j

either_settles : (b : Bool) (x : Tried Made) (j : ℕ) → Settles x j → Settles (elim b as (λ _. Tried Made) [ true ↦ refused Refusal.Failure | false ↦ x ]) j
unfolding Settles
either_settles true x j p = tt
either_settles false x j p = p

built_settles : (p : Parts) (made j : ℕ) (x : Taken) → Settles (built p made j x) j
unfolding built Settles
built_settles p made j nothing = maybe_settles (segment_of p) made j
built_settles p made j (one x) = either_settles (p.twice || has_specifier p.metadata) (fit (record { segment = x; made = made }) j) j refl
built_settles p made j several = tt

closed_settles : (g : Group) (j : ℕ) → Settles (closed g j) j
unfolding closed Settles
closed_settles g j = either_settles g.parts.twice _ j (by (any_specifier g.members))
  where
    by : (b : Bool) → Settles (elim b as (λ _. Tried Made) [ true ↦ make (group g.members g.parts.format) g.made j | false ↦ refused Refusal.Failure ]) j
    by true = make_settles (group g.members g.parts.format) g.made j
    by false = tt

-- ---- items

unfoldable pub takes_of : Taken → Bool
takes_of nothing = false
takes_of (one x) = true
takes_of several = true

taken_takes : (x : Taken) (y : LogSegment) → takes_of (taking x y) ≡ true
unfolding takes_of taking
taken_takes nothing y = refl
taken_takes (one x) y = refl
taken_takes several y = refl

lost_takes : (x : Taken) (asked : List ℕ) → lost_if (takes_of x) (first_of (all_lost asked)) ≡ first_of (lost_with x asked)
unfolding takes_of lost_with
lost_takes nothing asked = refl
lost_takes (one x) asked = refl
lost_takes several asked = refl

-- with nothing noted beside it, a note is the same
nothing_more : (u : List Unused) → first_of (u ++ []) ≡ first_of u
nothing_more u = first_joined u [] ∙ sooner_none (first_of u)

unfoldable pub sight : NotedContent → Sight
sight c = record { unused = first_of c.unused; asked = first_of (all_lost c.asked); takes = takes_of c.content.taken }

-- what is left unused, seen alone
abbrev pub SameNotes : NotedReader → Looker → Type 0
SameNotes reader looker = (i e made : ℕ) → Agrees (λ (x : Noted Made). note x) (reader i e made) (looker i e)

module _ (t : List ℕ) (groupN : NotedReader) (groupL : Looker) (g : SameNotes groupN groupL) (e i : ℕ) (c : NotedContent) where
  named_agrees : Agrees sight (named_at t e i c) (reaches (end_of (specifier_at t i e)) (worded false (sight c)))
  unfolding named_at sight with_words
  named_agrees = ends_agree sight (sight c) (specifier_at t i e) _ (λ m. refl)

  asks_agree : Agrees sight (asked_at t e i c) (reaches (end_of (parameter_at t i e)) (asking_from (sight c) i))
  unfolding asked_at asked_from sight with_words all_lost
  asks_agree = ends_agree sight (asking_from (sight c) i) (parameter_at t i e) (asked_from c i) (λ a. refl)

  inner_worded : (x : Made) → sight (with_noted c (noted x [])) ≡ worded true (sight c)
  unfolding with_noted sight with_segment
  inner_worded x =
      ap (λ (u : Maybe ℕ). record { unused = u; asked = first_of (all_lost c.asked); takes = takes_of (taking c.content.taken x.segment) }) (nothing_more c.unused)
      ∙ ap (λ (b : Bool). record { unused = first_of c.unused; asked = first_of (all_lost c.asked); takes = b }) (taken_takes c.content.taken x.segment)

  inner_too : Agrees sight (inner_at t i e c.content.made then λ x j. fit (with_noted c (noted x [])) j) (reaches (end_of (inner_at t i e 0)) (worded true (sight c)))
  inner_too = inner_agrees sight (worded true (sight c)) (λ x. with_noted c (noted x [])) inner_worded t i e c.content.made

  group_grouping : (x : Noted Made) → grouping (sight c) (note x) ≡ sight (with_noted c x)
  unfolding with_noted sight with_segment
  group_grouping x =
      ap (λ (b : Bool). record { unused = sooner (first_of c.unused) (note x); asked = first_of (all_lost c.asked); takes = b }) (sym (taken_takes c.content.taken x.what.segment))
      ∙ ap (λ (u : Maybe ℕ). record { unused = u; asked = first_of (all_lost c.asked); takes = takes_of (taking c.content.taken x.what.segment) }) (sym (first_joined c.unused x.unused))

  group_too : Agrees sight (groupN i e c.content.made then λ x j. fit (with_noted c x) j) (groupL i e then λ u j. fit (grouping (sight c) u) j)
  unfolding Agrees
  group_too = agrees_then (λ (x : Noted Made). note x) sight (groupN i e c.content.made) (groupL i e) _ _ (g i e c.content.made)
      (λ x j. ap (λ (z : Sight). fit z j) (group_grouping x))

  item_agrees : (even : Bool) → Agrees sight (item_noted even t groupN e i c) (look_item even t groupL e i (sight c))
  unfolding item_noted look_item
  item_agrees true = agrees_or sight _ _ _ _ inner_too (agrees_or sight _ _ _ _ asks_agree group_too)
  item_agrees false = agrees_or sight _ _ _ _ named_agrees (agrees_or sight _ _ _ _ asks_agree group_too)

left_by_lem : (c : NotedContent) (j e : ℕ) → left_by_content (sight c) j e ≡ first_of (unused_by c j e)
unfolding sight unused_by
left_by_lem c j e =
    ap (λ (u : Maybe ℕ). sooner (first_of c.unused) (sooner u (first_of (dropped_from j e)))) (lost_takes c.content.taken c.asked)
    ∙ ap (sooner (first_of c.unused)) (sym (first_joined (lost_with c.content.taken c.asked) (dropped_from j e)))
    ∙ sym (first_joined c.unused (lost_with c.content.taken c.asked ++ dropped_from j e))

begins : (made : ℕ) → sight (nothing_noted made) ≡ no_sight
unfolding sight nothing_noted no_content takes_of all_lost
begins made = refl

content_agrees : (even : Bool) (t : List ℕ) (groupN : NotedReader) (groupL : Looker) → SameNotes groupN groupL → SameNotes (content_noted even t groupN) (look_content even t groupL)
unfolding content_noted look_content
content_agrees even t groupN groupL g i e made =
    agrees_then sight (λ (x : Noted Made). note x) (listed (separator even) t e (item_noted even t groupN e) i (nothing_noted made)) (listed (separator even) t e (look_item even t groupL e) i no_sight) _ _
    (subst (λ (s : Sight). Agrees sight (listed (separator even) t e (item_noted even t groupN e) i (nothing_noted made)) (listed (separator even) t e (look_item even t groupL e) i s)) (begins made)
    (agrees_listed sight (item_noted even t groupN e) (look_item even t groupL e) (λ i' c. item_agrees t groupN groupL g e i' c even) (separator even) t e i (nothing_noted made)))
    (λ c j. settled_agrees (built c.content.parts c.content.made j c.content.taken) (unused_by c j e) (left_by_content (sight c) j e) j
    (built_settles c.content.parts c.content.made j c.content.taken) (left_by_lem c j e))

-- ---- groups

reaches_or : {S : Type 0} (x y : Ends) (s : S) → (reaches x s or_else λ _. reaches y s) ≡ reaches (or_end x y) s
unfolding ◌or_else◌
reaches_or (Some j) y s = refl
reaches_or None y s = refl

module _ (t : List ℕ) (braceN : NotedReader) (braceL : Looker) (b : SameNotes braceN braceL) (e i : ℕ) (g : Noted Group) where
  brace_too : Agrees (λ (g : Noted Group). note g) (braceN i e g.what.made then λ x j. fit (with_noted_member g x) j) (braceL i e then λ v j. fit (sooner (note g) v) j)
  unfolding with_noted_member Agrees
  brace_too = agrees_then (λ (x : Noted Made). note x) (λ (g : Noted Group). note g) (braceN i e g.what.made) (braceL i e) _ _ (b i e g.what.made) (λ x j. ap (λ (z : Maybe ℕ). fit z j) (sym (first_joined g.unused x.unused)))

  text_too : Agrees (λ (g : Noted Group). note g) (text_at t i e g.what.made then λ x j. fit (with_noted_member g (noted x [])) j) (reaches (end_of (text_at t i e 0)) (note g))
  unfolding with_noted_member
  text_too = text_agrees (λ (g : Noted Group). note g) (note g) (λ x. with_noted_member g (noted x [])) (λ x. nothing_more g.unused) t i e g.what.made

  percent_too : Agrees (λ (g : Noted Group). note g) (percent_at t i e then λ a j. fit (noted (with_asked g.what a) g.unused) j) (reaches (end_of (percent_at t i e)) (note g))
  percent_too = ends_agree (λ (g : Noted Group). note g) (note g) (percent_at t i e) _ (λ a. refl)

  piece_agrees : Agrees (λ (g : Noted Group). note g) (piece_noted t braceN e i g) (look_piece t braceL e i (note g))
  unfolding piece_noted look_piece
  piece_agrees =
      agrees_or (λ (g : Noted Group). note g) _ _ _ _ brace_too
      (subst (Agrees (λ (g : Noted Group). note g) _) (reaches_or (end_of (text_at t i e 0)) (end_of (percent_at t i e)) (note g))
      (agrees_or (λ (g : Noted Group). note g) _ _ _ _ text_too percent_too))

-- what is read stays what it is
fit_as_it_is : {A : Type 0} (x : Tried A) → (x then λ u j. fit u j) ≡ x
unfolding ◌then◌
fit_as_it_is (fit a j) = refl
fit_as_it_is misfit = refl
fit_as_it_is (refused r) = refl

group_agrees : (t : List ℕ) (braceN : NotedReader) (braceL : Looker) → SameNotes braceN braceL → SameNotes (group_noted t braceN) (look_group t braceL)
unfolding group_noted look_group
group_agrees t braceN braceL b i e made =
    subst (Agrees (λ (x : Noted Made). note x) _) (fit_as_it_is (repeated (look_piece t braceL e) (e - i) i none))
    (agrees_then (λ (g : Noted Group). note g) (λ (x : Noted Made). note x) (repeated (piece_noted t braceN e) (e - i) i (noted (no_group made) [])) (repeated (look_piece t braceL e) (e - i) i none) _ _
    (agrees_repeated (λ (g : Noted Group). note g) (piece_noted t braceN e) (look_piece t braceL e) (λ i' g. piece_agrees t braceN braceL b e i' g) (e - i) i (noted (no_group made) []))
    (λ g j. settled_agrees (closed g.what j) g.unused (note g) j (closed_settles g.what j) refl))

-- ---- braces

closed_at : (insideN : NotedReader) (insideL : Looker) → SameNotes insideN insideL → (i made : ℕ) (c : Closing)
    → Agrees (λ (x : Noted Made). note x) (brace_noted_to insideN i made c) (look_brace_to insideL i c)
unfolding brace_noted_to Agrees
closed_at insideN insideL h i made (Ok (Some c)) = agrees_then (λ (x : Noted Made). note x) (λ (x : Noted Made). note x) (insideN (i + 1) c made) (insideL (i + 1) c) _ _ (h (i + 1) c made) (λ x j. refl)
closed_at insideN insideL h i made (Ok None) = refl
closed_at insideN insideL h i made (Err r) = tt

brace_agrees : (t : List ℕ) (insideN : NotedReader) (insideL : Looker) → SameNotes insideN insideL → SameNotes (brace_noted t insideN) (look_brace t insideL)
unfolding brace_noted look_brace Agrees
brace_agrees t insideN insideL h i e made =
    agrees_if (λ (x : Noted Made). note x) (stands (byte "{") t i e) _ misfit _ misfit (closed_at insideN insideL h i made (closing t (e - (i + 1)) (i + 1) 0 false)) refl

inside_agrees : (d : ℕ) (even : Bool) (t : List ℕ) → SameNotes (inside_noted d even t) (look_inside d even t)
unfolding inside_noted look_inside Agrees
inside_agrees zero even t = λ i e made. tt
inside_agrees (suc d) even t = content_agrees even t _ _ (group_agrees t _ _ (brace_agrees t _ _ (inside_agrees d (not even) t)))

-- ---- the top level

top_agrees : (t : List ℕ) (e i : ℕ) (s : Noted Top) → Agrees (λ (s : Noted Top). note s) (top_noted t e i s) (look_top t e i (note s))
unfolding top_noted look_top Agrees
top_agrees t e i s =
    agrees_or (λ (s : Noted Top). note s) _ _ _ _
    (agrees_then (λ (x : Noted Made). note x) (λ (s : Noted Top). note s) (brace_noted t (inside_noted 8 false t) i e s.what.made) (look_brace t (look_inside 8 false t) i e) _ _
    (brace_agrees t _ _ (inside_agrees 8 false t) i e s.what.made) (λ x j. ap (λ (z : Maybe ℕ). fit z j) (sym (first_joined s.unused x.unused))))
    (text_agrees (λ (s : Noted Top). note s) (note s) _ (λ x. refl) t i e s.what.made)

tops_agree : (t : List ℕ) → Agrees (λ (s : Noted Top). note s) (reading_noted t) (tops_looked t)
unfolding reading_noted tops_looked
tops_agree t = agrees_repeated (λ (s : Noted Top). note s) (top_noted t (length t)) (look_top t (length t)) (top_agrees t (length t)) (length t) 0 _

-- ---- a template that was read

-- what is left of it, where the first edition's reading fits
left_fits : (x : Tried (Noted Top)) (s : Top) (j : ℕ) → seen (λ (s : Noted Top). s.what) x ≡ fit s j
    → (z : Tried (Maybe ℕ)) (e : ℕ) → Agrees (λ (s : Noted Top). note s) x z → left_up_to e z ≡ first_of (unused_up_to e x)
unfolding seen left_up_to unused_up_to Agrees
left_fits (fit a k) s j p z e r = ap (left_up_to e) r ∙ sym (first_joined a.unused (dropped_from k e))
left_fits misfit s j p z e r = absurd (let w : ◌≡◌ {A = ℕ} 0 1 = cc in let y : ⊥ = omega arith in y)
left_fits (refused k) s j p z e r = absurd (let w : ◌≡◌ {A = ℕ} 0 1 = cc in let y : ⊥ = omega arith in y)

pub left_is_unused : (t : List ℕ) → WasRead t → left_over t ≡ first_of (unused_in t)
unfolding left_over unused_in
left_is_unused t h = left_fits (reading_noted t) h.top h.end (tops_are t ∙ h.reads) (tops_looked t) (length t) (tops_agree t)
