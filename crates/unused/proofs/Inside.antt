-- What is left unused lies in the template. Assumes nothing.
use Prim.Native.Nat.{ℕ, zero, suc, ◌+◌, ◌-◌, ◌≤◌, ◌<◌, min}
use mathlib.Core.Path.{◌≡◌, refl, sym, subst, ◌∙◌}
use mathlib.Core.Bool.{Bool, true, false, not}
use mathlib.Core.List.{List, [], ◌∷◌, ◌++◌}
use native.Mathlib.Omega.{arith}
use lib.Dec.{eqb, ltb}
use lib.ListN.{length, get_or}
use borrow.Author.Tests.{ltb-true, ltb-false}
use Rattle.std.specs.Prelude.{Option, Some, None, Ok, Err}
use Rattle.buffer.specs.Bytes.{byte}
use Rattle.buffer.specs.Table.{Maybe, none, some}
use Rattle.words.specs.declared.Parameter.{Parameter}
use Rattle.runs.specs.Runs.{stands, letter, letters_end}
use Rattle.runs.proofs.Running.{run_end_lem, stands_before}
use Rattle.words.specs.Trying.{Tried, fit, misfit, refused, ◌or_else◌, ◌then◌, while_it_fits, repeated, further, listed}
use Rattle.words.specs.Words.{specifier_at, name, parameter_of, width_at, parameter_at}
use Rattle.words.proofs.Attempts.{or_else_misfit}
use Rattle.words.proofs.Asking.{no_parameter, width_end}
use Rattle.braces.specs.Braces.{Closing, Mark, opens, closes, escapes, neither, mark_of, past_mark, closing}
use Rattle.building.specs.Reading.{Made, text_at, inner_at, Taken, nothing, one, several, built, separator, Group, percent_at, closed, no_group, Top}
use Rattle.unused.specs.Looking.{place_told, PlaceBelow}
use Rattle.unused.specs.Unused.{Unused, bytes_dropped, parameter_lost, place_of, sooner, first_of, dropped_from, all_lost, lost_with, LiesIn, AllLieIn, Noted, noted, NotedReader, NotedContent, nothing_noted, asked_from, with_noted, named_at, asked_at, item_noted, unused_by, content_noted, with_noted_member, piece_noted, group_noted, brace_noted_to, brace_noted, inside_noted, top_noted, unused_up_to, reading_noted, unused_in}

-- ---- notes

joined : (n : ℕ) (x y : List Unused) → AllLieIn n x → AllLieIn n y → AllLieIn n (x ++ y)
unfolding AllLieIn
joined n [] y p q = q
joined n (u ∷ x) y p q = (p.0, joined n x y p.1 q)

one_wider : (n m : ℕ) → n ≤ m → (u : Unused) → LiesIn n u → LiesIn m u
unfolding LiesIn
one_wider n m h (bytes_dropped i e) p = (p.0, omega (arith, p.1))
one_wider n m h (parameter_lost i) p = omega arith

wider : (n m : ℕ) → n ≤ m → (x : List Unused) → AllLieIn n x → AllLieIn m x
unfolding AllLieIn
wider n m h [] p = tt
wider n m h (u ∷ x) p = (one_wider n m h u p.0, wider n m h x p.1)

dropped_in : (i e : ℕ) → AllLieIn e (dropped_from i e)
unfolding AllLieIn LiesIn
dropped_in i e = by (ltb i e) refl
  where
    by : (b : Bool) → ltb i e ≡ b → AllLieIn e (elim b as (λ _. List Unused) [ true ↦ bytes_dropped i e ∷ [] | false ↦ [] ])
    by true q = let h = ltb-true i e q in ((h, omega arith), tt)
    by false q = tt

lost_in : (n : ℕ) (x : Taken) (asked : List ℕ) → AllLieIn n (all_lost asked) → AllLieIn n (lost_with x asked)
unfolding lost_with AllLieIn
lost_in n nothing asked p = tt
lost_in n (one x) asked p = p
lost_in n several asked p = p

-- ---- attempts: what they give, if they fit

unfoldable Gives : {A : Type 0} → (A → Type 0) → Tried A → Type 0
Gives P (fit a j) = P a
Gives P misfit = Unit {0}
Gives P (refused r) = Unit {0}

gives_or : {A : Type 0} (P : A → Type 0) (x y : Tried A) → Gives P x → Gives P y → Gives P (x or_else λ _. y)
unfolding Gives ◌or_else◌
gives_or P (fit a j) y p q = p
gives_or P misfit y p q = q
gives_or P (refused r) y p q = tt

gives_then : {A B : Type 0} (P : A → Type 0) (Q : B → Type 0) (x : Tried A) (k : A → ℕ → Tried B) → Gives P x → ((a : A) (j : ℕ) → P a → Gives Q (k a j)) → Gives Q (x then k)
unfolding Gives ◌then◌
gives_then P Q (fit a j) k p h = h a j p
gives_then P Q misfit k p h = tt
gives_then P Q (refused r) k p h = tt

-- where nothing is known of what the first gives
gives_after : {A B : Type 0} (Q : B → Type 0) (x : Tried A) (k : A → ℕ → Tried B) → ((a : A) (j : ℕ) → Gives Q (k a j)) → Gives Q (x then k)
unfolding Gives ◌then◌
gives_after Q (fit a j) k h = h a j
gives_after Q misfit k h = tt
gives_after Q (refused r) k h = tt

module _ {S : Type 0} (P : S → Type 0) where
  gives_while : (x : Tried S) (k : ℕ → S → Tried S) (i : ℕ) (s : S) → P s → Gives P x → ((j : ℕ) (v : S) → P v → Gives P (k j v)) → Gives P (while_it_fits x k i s)
  unfolding Gives while_it_fits
  gives_while (fit v j) k i s p q h = h j v q
  gives_while misfit k i s p q h = p
  gives_while (refused r) k i s p q h = tt

  gives_if : (b : Bool) (x y : Tried S) → Gives P x → Gives P y → Gives P (elim b as (λ _. Tried S) [ true ↦ x | false ↦ y ])
  gives_if true x y p q = p
  gives_if false x y p q = q

  module _ (try : ℕ → S → Tried S) (h : (i : ℕ) (s : S) → P s → Gives P (try i s)) where
    gives_repeated : (n i : ℕ) (s : S) → P s → Gives P (repeated try n i s)
    unfolding Gives repeated
    gives_repeated zero i s p = p
    gives_repeated (suc n) i s p = gives_while (try i s) (repeated try n) i s p (h i s p) (gives_repeated n)

    gives_further : (b : ℕ) (t : List ℕ) (e n i : ℕ) (s : S) → P s → Gives P (further b t e try n i s)
    unfolding Gives further
    gives_further b t e zero i s p = p
    gives_further b t e (suc n) i s p =
        gives_if (stands b t i e) _ (fit s i) (gives_while (try (i + 1) s) (further b t e try n) i s p (h (i + 1) s p) (gives_further b t e n)) p

    gives_listed : (b : ℕ) (t : List ℕ) (e i : ℕ) (s : S) → P s → Gives P (listed b t e try i s)
    unfolding listed
    gives_listed b t e i s p = gives_then P P (try i s) _ (h i s p) (λ s' j q. gives_further b t e (e - i) j s' q)

-- ---- parameters and closing braces are found before the end

parameter_past : (t : List ℕ) (i e : ℕ) → e ≤ i → parameter_at t i e ≡ misfit
unfolding parameter_at
parameter_past t i e h =
    or_else_misfit (name parameter_of t i e) (λ _. width_at t i e) (no_parameter t i e (letters_end t i e) refl (let q = run_end_lem letter t e i h in omega arith))
    ∙ width_end t i e h

module _ (t : List ℕ) where
  -- what the byte at i does
  past_before : (onward : ℕ → Bool → Closing) (n i k c : ℕ) → ((k' : ℕ) (skip : Bool) → onward k' skip ≡ Ok (Some c) → c < i + suc n)
      → (m : Mark) → past_mark onward i k m ≡ Ok (Some c) → c < i + suc n
  unfolding past_mark
  past_before onward n i k c h opens p = h (k + 1) false p
  past_before onward n i k c h closes p = here (eqb k 0) p
    where
      here : (b : Bool) → elim b as (λ _. Closing) [ true ↦ Ok (Some i) | false ↦ onward (k - 1) false ] ≡ Ok (Some c) → c < i + suc n
      here true q = let e : i ≡ c = cc in omega arith
      here false q = h (k - 1) false q
  past_before onward n i k c h escapes p = h k true p
  past_before onward n i k c h neither p = h k false p

  closing_before : (n i k : ℕ) (skip : Bool) (c : ℕ) → closing t n i k skip ≡ Ok (Some c) → c < i + n
  unfolding closing
  closing_before zero i k true c q = absurd (let z : ◌≡◌ {A = ℕ} 0 1 = cc in let y : ⊥ = omega arith in y)
  closing_before zero i k false c q = absurd (let z : ◌≡◌ {A = ℕ} 0 1 = cc in let y : ⊥ = omega arith in y)
  closing_before (suc n) i k true c q = let h = closing_before n (i + 1) k false c q in omega arith
  closing_before (suc n) i k false c q =
      past_before (closing t n (i + 1)) n i k c (λ k' skip p. let h = closing_before n (i + 1) k' skip c p in (let z : c < i + suc n = omega arith in z)) (mark_of (get_or t i 0)) q

-- ---- the readers

-- what a reader notes lies before the end that it reads up to
abbrev NotesIn : NotedReader → Type 0
NotesIn reader = (i e made : ℕ) → Gives (λ (x : Noted Made). AllLieIn e x.unused) (reader i e made)

-- a content's notes and its parameters
abbrev ContentIn : ℕ → NotedContent → Type 0
ContentIn e c = AllLieIn e c.unused × AllLieIn e (all_lost c.asked)

module _ (t : List ℕ) (group : NotedReader) (g : NotesIn group) (e i : ℕ) (c : NotedContent) (p : ContentIn e c) where
  named_in : Gives (ContentIn e) (named_at t e i c)
  unfolding named_at Gives
  named_in = gives_after (ContentIn e) (specifier_at t i e) _ (λ m j. p)

  asked_in : Gives (ContentIn e) (asked_at t e i c)
  unfolding asked_at asked_from all_lost AllLieIn LiesIn Gives ◌then◌
  asked_in = by (ltb i e) refl
    where
      by : (b : Bool) → ltb i e ≡ b → Gives (ContentIn e) (parameter_at t i e then λ a j. fit (asked_from c i a) j)
      by true q = gives_after (ContentIn e) (parameter_at t i e) _ (λ a j. (p.0, (ltb-true i e q, p.1)))
      by false q =
          subst (λ (x : Tried Parameter). Gives (ContentIn e) (x then λ a j. fit (asked_from c i a) j)) (sym (parameter_past t i e (ltb-false i e q))) tt

  inner_in : Gives (ContentIn e) (inner_at t i e c.content.made then λ x j. fit (with_noted c (noted x [])) j)
  unfolding with_noted AllLieIn Gives
  inner_in = gives_after (ContentIn e) (inner_at t i e c.content.made) _ (λ x j. (joined e c.unused [] p.0 tt, p.1))

  group_in_lem : Gives (ContentIn e) (group i e c.content.made then λ x j. fit (with_noted c x) j)
  unfolding with_noted Gives
  group_in_lem =
      gives_then (λ (x : Noted Made). AllLieIn e x.unused) (ContentIn e) (group i e c.content.made) _ (g i e c.content.made)
      (λ x j q. (joined e c.unused x.unused p.0 q, p.1))

  item_in_lem : (even : Bool) → Gives (ContentIn e) (item_noted even t group e i c)
  unfolding item_noted
  item_in_lem true = gives_or (ContentIn e) _ _ inner_in (gives_or (ContentIn e) _ _ asked_in group_in_lem)
  item_in_lem false = gives_or (ContentIn e) _ _ named_in (gives_or (ContentIn e) _ _ asked_in group_in_lem)

-- notes put beside what is made of something
beside : (n : ℕ) (x : Tried Made) (u : List Unused) → AllLieIn n u → Gives (λ (y : Noted Made). AllLieIn n y.unused) (x then λ y k. fit (noted y u) k)
unfolding Gives
beside n x u p = gives_after (λ (y : Noted Made). AllLieIn n y.unused) x _ (λ y k. p)

content_in : (even : Bool) (t : List ℕ) (group : NotedReader) → NotesIn group → NotesIn (content_noted even t group)
unfolding content_noted nothing_noted unused_by all_lost AllLieIn
content_in even t group g i e made =
    gives_then (ContentIn e) (λ (x : Noted Made). AllLieIn e x.unused) (listed (separator even) t e (item_noted even t group e) i (nothing_noted made)) _
    (gives_listed (ContentIn e) (item_noted even t group e) (λ i' c p. item_in_lem t group g e i' c p even) (separator even) t e i (nothing_noted made) (tt, tt))
    (λ c j p. beside e (built c.content.parts c.content.made j c.content.taken) (unused_by c j e)
    (joined e c.unused _ p.0 (joined e (lost_with c.content.taken c.asked) (dropped_from j e) (lost_in e c.content.taken c.asked p.1) (dropped_in j e))))

-- what a group has noted so far
abbrev GroupIn : ℕ → Noted Group → Type 0
GroupIn e g = AllLieIn e g.unused

piece_in : (t : List ℕ) (brace : NotedReader) → NotesIn brace → (e i : ℕ) (g : Noted Group) → GroupIn e g → Gives (GroupIn e) (piece_noted t brace e i g)
unfolding piece_noted with_noted_member AllLieIn Gives
piece_in t brace b e i g p =
    gives_or (GroupIn e) _ _
    (gives_then (λ (x : Noted Made). AllLieIn e x.unused) (GroupIn e) (brace i e g.what.made) _ (b i e g.what.made) (λ x j q. joined e g.unused x.unused p q))
    (gives_or (GroupIn e) _ _
    (gives_after (GroupIn e) (text_at t i e g.what.made) _ (λ x j. joined e g.unused [] p tt))
    (gives_after (GroupIn e) (percent_at t i e) _ (λ a j. p)))

group_notes : (t : List ℕ) (brace : NotedReader) → NotesIn brace → NotesIn (group_noted t brace)
unfolding group_noted AllLieIn
group_notes t brace b i e made =
    gives_then (GroupIn e) (λ (x : Noted Made). AllLieIn e x.unused) (repeated (piece_noted t brace e) (e - i) i (noted (no_group made) [])) _
    (gives_repeated (GroupIn e) (piece_noted t brace e) (piece_in t brace b e) (e - i) i (noted (no_group made) []) tt)
    (λ g j p. beside e (closed g.what j) g.unused p)

brace_notes : (t : List ℕ) (inside : NotedReader) → NotesIn inside → NotesIn (brace_noted t inside)
unfolding brace_noted brace_noted_to Gives
brace_notes t inside h i e made = by (stands (byte "{") t i e) refl
  where
    P : Noted Made → Type 0
    P x = AllLieIn e x.unused

    to : i < e → (c : Closing) → closing t (e - (i + 1)) (i + 1) 0 false ≡ c → Gives P (brace_noted_to inside i made c)
    to b (Ok (Some c)) q =
        let l = closing_before t (e - (i + 1)) (i + 1) 0 false c q in
        gives_then (λ (x : Noted Made). AllLieIn c x.unused) P (inside (i + 1) c made) _ (h (i + 1) c made) (λ x j p. wider c e (omega arith) x.unused p)
    to b (Ok None) q = tt
    to b (Err r) q = tt

    by : (b : Bool) → stands (byte "{") t i e ≡ b
        → Gives P (elim b as (λ _. Tried (Noted Made)) [ true ↦ brace_noted_to inside i made (closing t (e - (i + 1)) (i + 1) 0 false) | false ↦ misfit ])
    by true q = to (stands_before (byte "{") t i e q) (closing t (e - (i + 1)) (i + 1) 0 false) refl
    by false q = tt

inside_notes : (d : ℕ) (even : Bool) (t : List ℕ) → NotesIn (inside_noted d even t)
unfolding inside_noted Gives
inside_notes zero even t = λ i e made. tt
inside_notes (suc d) even t = content_in even t _ (group_notes t _ (brace_notes t _ (inside_notes d (not even) t)))

-- ---- the whole template

top_in : (t : List ℕ) (e i : ℕ) (s : Noted Top) → AllLieIn e s.unused → Gives (λ (s : Noted Top). AllLieIn e s.unused) (top_noted t e i s)
unfolding top_noted Gives
top_in t e i s p =
    gives_or (λ (s : Noted Top). AllLieIn e s.unused) _ _
    (gives_then (λ (x : Noted Made). AllLieIn e x.unused) (λ (s : Noted Top). AllLieIn e s.unused) (brace_noted t (inside_noted 8 false t) i e s.what.made) _
    (brace_notes t _ (inside_notes 8 false t) i e s.what.made) (λ x j q. joined e s.unused x.unused p q))
    (gives_after (λ (s : Noted Top). AllLieIn e s.unused) (text_at t i e s.what.made) _ (λ x j. p))

rest_in : (e : ℕ) (x : Tried (Noted Top)) → Gives (λ (s : Noted Top). AllLieIn e s.unused) x → AllLieIn e (unused_up_to e x)
unfolding unused_up_to Gives AllLieIn
rest_in e (fit s j) p = joined e s.unused (dropped_from j e) p (dropped_in j e)
rest_in e misfit p = tt
rest_in e (refused r) p = tt

pub all_inside : (t : List ℕ) → AllLieIn (length t) (unused_in t)
unfolding unused_in reading_noted AllLieIn
all_inside t =
    rest_in (length t) _
    (gives_repeated (λ (s : Noted Top). AllLieIn (length t) s.unused) (top_noted t (length t)) (top_in t (length t)) (length t) 0 _ tt)

-- ---- the first place

place_inside : (n : ℕ) (u : Unused) → LiesIn n u → place_of u < n
unfolding LiesIn
place_inside n (bytes_dropped i e) p = let h = p.0 in let g = p.1 in omega arith
place_inside n (parameter_lost i) p = p

sooner_inside : (n x p : ℕ) (m : Maybe ℕ) → x < n → ((y : ℕ) → m ≡ some y → y < n) → sooner (some x) m ≡ some p → p < n
sooner_inside n x p none h g q = let e : x ≡ p = cc in omega arith
sooner_inside n x p (some y) h g q = let e : min x y ≡ p = cc in let l = g y refl in omega arith

pub first_inside : (n : ℕ) (x : List Unused) → AllLieIn n x → (p : ℕ) → first_of x ≡ some p → p < n
unfolding AllLieIn
first_inside n [] h p q = absurd (let z : ◌≡◌ {A = ℕ} 0 1 = cc in let y : ⊥ = omega arith in y)
first_inside n (u ∷ x) h p q = sooner_inside n (place_of u) p (first_of x) (place_inside n u h.0) (first_inside n x h.1) q

pub below_told : (r : Option ℕ) (n : ℕ) (x : List Unused) → AllLieIn n x → place_told r ≡ first_of x → PlaceBelow n r
below_told (Some p) n x h q = first_inside n x h p (sym q)
below_told None n x h q = tt
