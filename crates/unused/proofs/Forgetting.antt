-- Without its notes each reader is the first edition's. Assumes nothing.
use Prim.Native.Nat.{ℕ, zero, suc, ◌+◌, ◌-◌}
use mathlib.Core.Path.{◌≡◌, refl, sym, ap, ◌∙◌}
use mathlib.Core.Bool.{Bool, true, false, not}
use mathlib.Core.List.{List, []}
use lib.ListN.{length}
use Rattle.std.specs.Prelude.{Some, None, Ok, Err}
use Rattle.buffer.specs.Bytes.{byte}
use Rattle.words.specs.declared.LogMetadata.{LogMetadata}
use Rattle.runs.specs.Runs.{stands}
use Rattle.words.specs.Trying.{Tried, fit, misfit, refused, ◌or_else◌, ◌then◌, while_it_fits, repeated, further, listed}
use Rattle.words.specs.Words.{specifier_at, parameter_at}
use Rattle.parts.specs.Parts.{with_specifier, with_parameter}
use Rattle.segments.specs.Segments as segments
use Rattle.braces.specs.Braces.{Closing, closing}
use Rattle.building.specs.Reading.{Made, Reader, text_at, inner_at, word_at, Content, odd_item, even_item, item_at, with_words, with_segment, built, separator, content_at, Group, with_member, with_asked, percent_at, piece_at, closed, no_group, group_at, brace_to, brace_at, inside_at, Top, top_at}
use Rattle.unused.specs.Unused.{Unused, Noted, noted, unnoted, NotedReader, NotedContent, asked_from, with_noted, named_at, asked_at, item_noted, nothing_noted, unused_by, content_noted, with_noted_member, piece_noted, group_noted, brace_noted_to, brace_noted, inside_noted, top_noted, reading_noted}

-- ---- what an attempt gives, seen through f

unfoldable pub seen : {A B : Type 0} → (A → B) → Tried A → Tried B
seen f (fit a j) = fit (f a) j
seen f misfit = misfit
seen f (refused r) = refused r

module _ {A B : Type 0} (f : A → B) where
  seen_or : (x y : Tried A) (u v : Tried B) → seen f x ≡ u → seen f y ≡ v → seen f (x or_else λ _. y) ≡ (u or_else λ _. v)
  unfolding seen ◌or_else◌
  seen_or (fit a j) y u v p q = ap (λ (w : Tried B). w or_else λ _. v) p
  seen_or misfit y u v p q = q ∙ ap (λ (w : Tried B). w or_else λ _. v) p
  seen_or (refused r) y u v p q = ap (λ (w : Tried B). w or_else λ _. v) p

module _ {A B C : Type 0} (f : B → C) where
  -- the same attempt, and what is made of it
  seen_then : (x : Tried A) (k : A → ℕ → Tried B) (l : A → ℕ → Tried C) → ((a : A) (j : ℕ) → seen f (k a j) ≡ l a j) → seen f (x then k) ≡ (x then l)
  unfolding seen ◌then◌
  seen_then (fit a j) k l h = h a j
  seen_then misfit k l h = refl
  seen_then (refused r) k l h = refl

module _ {A B C D : Type 0} (f : A → B) (g : C → D) where
  -- an attempt that is seen through f, and what is made of it
  seen_both : (x : Tried A) (y : Tried B) (k : A → ℕ → Tried C) (l : B → ℕ → Tried D) → seen f x ≡ y → ((a : A) (j : ℕ) → seen g (k a j) ≡ l (f a) j) → seen g (x then k) ≡ (y then l)
  unfolding seen ◌then◌
  seen_both (fit a j) y k l p h = h a j ∙ ap (λ (w : Tried B). w then l) p
  seen_both misfit y k l p h = ap (λ (w : Tried B). w then l) p
  seen_both (refused r) y k l p h = ap (λ (w : Tried B). w then l) p

-- ---- attempts one after the other

or_assoc : {A : Type 0} (x y z : Tried A) → ((x or_else λ _. y) or_else λ _. z) ≡ (x or_else λ _. (y or_else λ _. z))
unfolding ◌or_else◌
or_assoc (fit a j) y z = refl
or_assoc misfit y z = refl
or_assoc (refused r) y z = refl

-- what is made of a fit is one
fits : {A B : Type 0} → (A → B) → A → ℕ → Tried B
fits h a j = fit (h a) j

or_then : {A B : Type 0} (x y : Tried A) (h : A → B) → ((x or_else λ _. y) then fits h) ≡ ((x then fits h) or_else λ _. (y then fits h))
unfolding ◌or_else◌ ◌then◌ fits
or_then (fit a j) y h = refl
or_then misfit y h = refl
or_then (refused r) y h = refl

then_then : {A B C : Type 0} (x : Tried A) (h : A → B) (g : B → C) → ((x then fits h) then fits g) ≡ (x then fits (λ a. g (h a)))
unfolding ◌then◌ fits
then_then (fit a j) h g = refl
then_then misfit h g = refl
then_then (refused r) h g = refl

-- ---- lists

module _ {S U : Type 0} (f : S → U) where
  seen_while : (x : Tried S) (y : Tried U) (k : ℕ → S → Tried S) (l : ℕ → U → Tried U) (i : ℕ) (s : S)
      → seen f x ≡ y → ((j : ℕ) (v : S) → seen f (k j v) ≡ l j (f v)) → seen f (while_it_fits x k i s) ≡ while_it_fits y l i (f s)
  unfolding seen while_it_fits
  seen_while (fit v j) y k l i s p h = h j v ∙ ap (λ (w : Tried U). while_it_fits w l i (f s)) p
  seen_while misfit y k l i s p h = ap (λ (w : Tried U). while_it_fits w l i (f s)) p
  seen_while (refused r) y k l i s p h = ap (λ (w : Tried U). while_it_fits w l i (f s)) p

  module _ (try : ℕ → S → Tried S) (try' : ℕ → U → Tried U) (h : (i : ℕ) (s : S) → seen f (try i s) ≡ try' i (f s)) where
    pub seen_repeated : (n i : ℕ) (s : S) → seen f (repeated try n i s) ≡ repeated try' n i (f s)
    unfolding seen repeated
    seen_repeated zero i s = refl
    seen_repeated (suc n) i s = seen_while (try i s) (try' i (f s)) (repeated try n) (repeated try' n) i s (h i s) (seen_repeated n)

    seen_if : (b : Bool) (x y : Tried S) (u v : Tried U) → seen f x ≡ u → seen f y ≡ v
        → seen f (elim b as (λ _. Tried S) [ true ↦ x | false ↦ y ]) ≡ elim b as (λ _. Tried U) [ true ↦ u | false ↦ v ]
    seen_if true x y u v p q = p
    seen_if false x y u v p q = q

    seen_further : (b : ℕ) (t : List ℕ) (e n i : ℕ) (s : S) → seen f (further b t e try n i s) ≡ further b t e try' n i (f s)
    unfolding seen further
    seen_further b t e zero i s = refl
    seen_further b t e (suc n) i s =
        seen_if (stands b t i e) _ _ _ _
        (seen_while (try (i + 1) s) (try' (i + 1) (f s)) (further b t e try n) (further b t e try' n) i s (h (i + 1) s) (seen_further b t e n))
        refl

    pub seen_listed : (b : ℕ) (t : List ℕ) (e i : ℕ) (s : S) → seen f (listed b t e try i s) ≡ listed b t e try' i (f s)
    unfolding listed
    seen_listed b t e i s =
        seen_both f f (try i s) (try' i (f s)) (λ s' j. further b t e try (e - i) j s') (λ s' j. further b t e try' (e - i) j s')
        (h i s) (λ s' j. seen_further b t e (e - i) j s')

-- ---- the readers

-- a noted reader without its notes
abbrev Forgets : NotedReader → Reader → Type 0
Forgets noted' plain = (i e made : ℕ) → seen (λ (x : Noted Made). x.what) (noted' i e made) ≡ plain i e made

module _ (t : List ℕ) (groupN : NotedReader) (groupP : Reader) (g : Forgets groupN groupP) (e i : ℕ) (c : NotedContent) where
  asks_forgets : seen (λ (c : NotedContent). c.content) (asked_at t e i c) ≡ (parameter_at t i e then λ a j. fit (with_words c.content (with_parameter c.content.parts a)) j)
  unfolding asked_at asked_from seen
  asks_forgets = seen_then (λ (c : NotedContent). c.content) (parameter_at t i e) _ _ (λ a j. refl)

  named_forgets : seen (λ (c : NotedContent). c.content) (named_at t e i c) ≡ (specifier_at t i e then λ m j. fit (with_words c.content (with_specifier c.content.parts m)) j)
  unfolding named_at seen
  named_forgets = seen_then (λ (c : NotedContent). c.content) (specifier_at t i e) _ _ (λ m j. refl)

  group_forgets : seen (λ (c : NotedContent). c.content) (groupN i e c.content.made then λ x j. fit (with_noted c x) j) ≡ (groupP i e c.content.made then λ x j. fit (with_segment c.content x) j)
  unfolding with_noted seen
  group_forgets = seen_both (λ (x : Noted Made). x.what) (λ (c : NotedContent). c.content) (groupN i e c.content.made) _ _ _ (g i e c.content.made) (λ x j. refl)

  inner_forgets : seen (λ (c : NotedContent). c.content) (inner_at t i e c.content.made then λ x j. fit (with_noted c (noted x [])) j) ≡ (inner_at t i e c.content.made then λ x j. fit (with_segment c.content x) j)
  unfolding with_noted seen
  inner_forgets = seen_then (λ (c : NotedContent). c.content) (inner_at t i e c.content.made) _ _ (λ x j. refl)

  -- the words of an odd item, one by one
  words_apart : (word_at t e i c.content.parts then λ p j. fit (with_words c.content p) j)
      ≡ ((specifier_at t i e then λ m j. fit (with_words c.content (with_specifier c.content.parts m)) j)
      or_else λ _. (parameter_at t i e then λ a j. fit (with_words c.content (with_parameter c.content.parts a)) j))
  unfolding word_at fits
  words_apart =
      or_then (specifier_at t i e then fits (with_specifier c.content.parts)) (parameter_at t i e then fits (with_parameter c.content.parts)) (with_words c.content)
      ∙ ap (λ (x : Tried Content). x or_else λ _. ((parameter_at t i e then fits (with_parameter c.content.parts)) then fits (with_words c.content))) (then_then (specifier_at t i e) (with_specifier c.content.parts) (with_words c.content))
      ∙ ap (λ (y : Tried Content). (specifier_at t i e then fits (λ (m : LogMetadata). with_words c.content (with_specifier c.content.parts m))) or_else λ _. y) (then_then (parameter_at t i e) (with_parameter c.content.parts) (with_words c.content))

  pub item_forgets : (even : Bool) → seen (λ (c : NotedContent). c.content) (item_noted even t groupN e i c) ≡ item_at even t groupP e i c.content
  unfolding item_noted item_at even_item odd_item
  item_forgets true =
      seen_or (λ (c : NotedContent). c.content) _ _ _ _ inner_forgets
      (seen_or (λ (c : NotedContent). c.content) _ _ _ _ asks_forgets group_forgets)
  item_forgets false =
      seen_or (λ (c : NotedContent). c.content) _ _ _ _ named_forgets
      (seen_or (λ (c : NotedContent). c.content) _ _ _ _ asks_forgets group_forgets)
      ∙ sym (or_assoc _ _ _)
      ∙ ap (λ (x : Tried Content). x or_else λ _. (groupP i e c.content.made then λ x j. fit (with_segment c.content x) j)) (sym words_apart)

-- what is read, with a note put beside it and taken away again
bare : (x : Tried Made) (u : List Unused) → seen (λ (y : Noted Made). y.what) (x then λ y k. fit (noted y u) k) ≡ x
unfolding seen ◌then◌
bare (fit a j) u = refl
bare misfit u = refl
bare (refused r) u = refl

pub content_forgets : (even : Bool) (t : List ℕ) (groupN : NotedReader) (groupP : Reader) → Forgets groupN groupP → Forgets (content_noted even t groupN) (content_at even t groupP)
unfolding content_noted content_at nothing_noted
content_forgets even t groupN groupP g i e made =
    seen_both (λ (c : NotedContent). c.content) (λ (x : Noted Made). x.what) _ _ _ _
    (seen_listed (λ (c : NotedContent). c.content) (item_noted even t groupN e) (item_at even t groupP e) (λ i' c. item_forgets t groupN groupP g e i' c even) (separator even) t e i (nothing_noted made))
    (λ c j. bare (built c.content.parts c.content.made j c.content.taken) (unused_by c j e))

-- ---- groups

module _ (t : List ℕ) (braceN : NotedReader) (braceP : Reader) (b : Forgets braceN braceP) (e i : ℕ) (g : Noted Group) where
  brace_forgets : seen (λ (g : Noted Group). g.what) (braceN i e g.what.made then λ x j. fit (with_noted_member g x) j) ≡ (braceP i e g.what.made then λ x j. fit (with_member g.what x) j)
  unfolding with_noted_member seen
  brace_forgets = seen_both (λ (x : Noted Made). x.what) (λ (g : Noted Group). g.what) (braceN i e g.what.made) _ _ _ (b i e g.what.made) (λ x j. refl)

  text_forgets : seen (λ (g : Noted Group). g.what) (text_at t i e g.what.made then λ x j. fit (with_noted_member g (noted x [])) j) ≡ (text_at t i e g.what.made then λ x j. fit (with_member g.what x) j)
  unfolding with_noted_member seen
  text_forgets = seen_then (λ (g : Noted Group). g.what) (text_at t i e g.what.made) _ _ (λ x j. refl)

  percent_forgets : seen (λ (g : Noted Group). g.what) (percent_at t i e then λ a j. fit (noted (with_asked g.what a) g.unused) j) ≡ (percent_at t i e then λ a j. fit (with_asked g.what a) j)
  unfolding seen
  percent_forgets = seen_then (λ (g : Noted Group). g.what) (percent_at t i e) _ _ (λ a j. refl)

  pub piece_forgets : seen (λ (g : Noted Group). g.what) (piece_noted t braceN e i g) ≡ piece_at t braceP e i g.what
  unfolding piece_noted piece_at
  piece_forgets =
      seen_or (λ (g : Noted Group). g.what) _ _ _ _ brace_forgets
      (seen_or (λ (g : Noted Group). g.what) _ _ _ _ text_forgets percent_forgets)

pub group_is : (t : List ℕ) (braceN : NotedReader) (braceP : Reader) → Forgets braceN braceP → Forgets (group_noted t braceN) (group_at t braceP)
unfolding group_noted group_at
group_is t braceN braceP b i e made =
    seen_both (λ (g : Noted Group). g.what) (λ (x : Noted Made). x.what) _ _ _ closed
    (seen_repeated (λ (g : Noted Group). g.what) (piece_noted t braceN e) (piece_at t braceP e) (λ i' g. piece_forgets t braceN braceP b e i' g) (e - i) i (noted (no_group made) []))
    (λ g j. bare (closed g.what j) g.unused)

-- ---- braces

closed_at : (insideN : NotedReader) (insideP : Reader) → Forgets insideN insideP → (i made : ℕ) (c : Closing)
    → seen (λ (x : Noted Made). x.what) (brace_noted_to insideN i made c) ≡ brace_to insideP i made c
unfolding brace_noted_to brace_to seen
closed_at insideN insideP h i made (Ok (Some c)) = seen_both (λ (x : Noted Made). x.what) (λ (x : Noted Made). x.what) (insideN (i + 1) c made) _ _ _ (h (i + 1) c made) (λ x j. refl)
closed_at insideN insideP h i made (Ok None) = refl
closed_at insideN insideP h i made (Err r) = refl

by_test : (b : Bool) (x : Tried (Noted Made)) (y : Tried Made) → seen (λ (z : Noted Made). z.what) x ≡ y
    → seen (λ (z : Noted Made). z.what) (elim b as (λ _. Tried (Noted Made)) [ true ↦ x | false ↦ misfit ]) ≡ elim b as (λ _. Tried Made) [ true ↦ y | false ↦ misfit ]
unfolding seen
by_test true x y p = p
by_test false x y p = refl

pub brace_is : (t : List ℕ) (insideN : NotedReader) (insideP : Reader) → Forgets insideN insideP → Forgets (brace_noted t insideN) (brace_at t insideP)
unfolding brace_noted brace_at
brace_is t insideN insideP h i e made = by_test (stands (byte "{") t i e) _ _ (closed_at insideN insideP h i made (closing t (e - (i + 1)) (i + 1) 0 false))

pub inside_is : (d : ℕ) (even : Bool) (t : List ℕ) → Forgets (inside_noted d even t) (inside_at d even t)
unfolding inside_noted inside_at seen
inside_is zero even t = λ i e made. refl
inside_is (suc d) even t = content_forgets even t _ _ (group_is t _ _ (brace_is t _ _ (inside_is d (not even) t)))

-- ---- the top level

pub top_is : (t : List ℕ) (e i : ℕ) (s : Noted Top) → seen (λ (s : Noted Top). s.what) (top_noted t e i s) ≡ top_at t e i s.what
unfolding top_noted top_at seen
top_is t e i s =
    seen_or (λ (s : Noted Top). s.what) _ _ _ _
    (seen_both (λ (x : Noted Made). x.what) (λ (s : Noted Top). s.what) (brace_noted t (inside_noted 8 false t) i e s.what.made) _ _ _
    (brace_is t _ _ (inside_is 8 false t) i e s.what.made) (λ x j. refl))
    (seen_then (λ (s : Noted Top). s.what) (text_at t i e s.what.made) _ _ (λ x j. refl))

-- the whole template without its notes is what the first edition reads
pub tops_are : (t : List ℕ) → seen (λ (s : Noted Top). s.what) (reading_noted t) ≡ repeated (top_at t (length t)) (length t) 0 (record { segments = segments.none; made = 0 })
unfolding reading_noted
tops_are t = seen_repeated (λ (s : Noted Top). s.what) (top_noted t (length t)) (top_at t (length t)) (top_is t (length t)) (length t) 0 (noted (record { segments = segments.none; made = 0 }) [])

unnoted_seen : {A : Type 0} (x : Tried (Noted A)) → unnoted x ≡ seen (λ (y : Noted A). y.what) x
unfolding unnoted seen
unnoted_seen (fit a j) = refl
unnoted_seen misfit = refl
unnoted_seen (refused r) = refl

pub reading_unnoted : (t : List ℕ) → unnoted (reading_noted t) ≡ repeated (top_at t (length t)) (length t) 0 (record { segments = segments.none; made = 0 })
reading_unnoted t = unnoted_seen (reading_noted t) ∙ tops_are t
