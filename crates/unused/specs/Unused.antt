-- What a template leaves unused (document 02, E5): "bytes dropped or a parameter lost". The readers of building/specs/Reading.antt again, in their order,
-- each with notes beside what it reads; without the notes they are those readers (proofs/Forgetting.antt). Assumes nothing.
use Rattle.std.specs.Prelude.{Some, None, Ok, Err, ℕ, zero, suc, ◌+◌, ◌-◌, ◌≤◌, ◌<◌, min, Bool, true, false, not, List, [], ◌∷◌, ◌++◌, ltb, length}
use Rattle.buffer.specs.Bytes.{byte}
use Rattle.buffer.specs.Table.{Maybe, none, some}
use Rattle.refusals.specs.declared.Refusal.{Refusal}
use Rattle.words.specs.declared.Parameter.{Parameter}
use Rattle.runs.specs.Runs.{stands}
use Rattle.words.specs.Trying.{Tried, fit, misfit, refused, ◌or_else◌, ◌then◌, repeated, listed}
use Rattle.words.specs.Words.{specifier_at, parameter_at}
use Rattle.parts.specs.Parts.{with_specifier, with_parameter}
use Rattle.segments.specs.Segments as segments
use Rattle.braces.specs.Braces.{Closing, closing}
use Rattle.building.specs.Reading.{Made, text_at, inner_at, Taken, nothing, one, several, Content, with_words, with_segment, built, no_content, separator, Group, with_member, with_asked, percent_at, closed, no_group, Top, with_top}

-- ---- what is left unused, and where

-- what keeps a template from being one "with every byte used and every parameter still in force": bytes, from the first up to the place after the last, that
-- no segment comes from; or a parameter, by the place of its own first byte
pub data Unused : Type 0 where
  bytes_dropped : ℕ → ℕ → Unused
  parameter_lost : ℕ → Unused

-- "the place (from 0) of the first dropped byte or, if it comes earlier, of the lost parameter"
abbrev pub place_of : Unused → ℕ
place_of (bytes_dropped i e) = i
place_of (parameter_lost i) = i

-- the earlier of two places, where there are two
abbrev pub sooner : Maybe ℕ → Maybe ℕ → Maybe ℕ
sooner none y = y
sooner (some x) none = some x
sooner (some x) (some y) = some (min x y)

-- the first place of all that is left unused
abbrev pub first_of : List Unused → Maybe ℕ
first_of [] = none
first_of (u ∷ rest) = sooner (some (place_of u)) (first_of rest)

-- "Bytes of its content left unread are dropped": those from i up to e, if there are any
abbrev pub dropped_from : ℕ → ℕ → List Unused
dropped_from i e = elim (ltb i e) [ true ↦ bytes_dropped i e ∷ [] | false ↦ [] ]

-- parameters that begin at these places, all of them lost
unfoldable pub all_lost : List ℕ → List Unused
all_lost [] = []
all_lost (i ∷ rest) = parameter_lost i ∷ all_lost rest

-- "Content with one group or inner segment takes that and loses its own parameters" (with several it is refused)
unfoldable pub lost_with : Taken → List ℕ → List Unused
lost_with nothing asked = []
lost_with (one x) asked = all_lost asked
lost_with several asked = all_lost asked

-- where it lies in a template of so many bytes: at least one byte is dropped, and a parameter has one
unfoldable pub LiesIn : ℕ → Unused → Type 0
LiesIn n (bytes_dropped i e) = (i < e) × (e ≤ n)
LiesIn n (parameter_lost i) = i < n

-- all of it
unfoldable pub AllLieIn : ℕ → List Unused → Type 0
AllLieIn n [] = Unit {0}
AllLieIn n (u ∷ rest) = LiesIn n u × AllLieIn n rest

-- ---- notes

-- what was read, and what it leaves unused
pub record Noted (A : Type 0) : Type 0 where
  pub what : A
  pub unused : List Unused

-- something read, with its notes
abbrev pub noted : {A : Type 0} → A → List Unused → Noted A
noted a unused = record { what = a; unused = unused }

-- what an attempt gives, without its notes
unfoldable pub unnoted : {A : Type 0} → Tried (Noted A) → Tried A
unnoted (fit x j) = fit x.what j
unnoted misfit = misfit
unnoted (refused r) = refused r

-- a reader that notes what is left unused
abbrev pub NotedReader : Type 0
NotedReader = ℕ → ℕ → ℕ → Tried (Noted Made)

-- ---- contents

-- what the items of a content have given so far, what they leave unused, and where the content's own parameters begin
pub record NotedContent : Type 0 where
  pub content : Content
  pub unused : List Unused
  pub asked : List ℕ

-- a content before its first item
unfoldable pub nothing_noted : ℕ → NotedContent
nothing_noted made = record { content = no_content made; unused = []; asked = [] }

-- a content with one parameter more, which begins at i
unfoldable pub asked_from : NotedContent → ℕ → Parameter → NotedContent
asked_from c i a = record { content = with_words c.content (with_parameter c.content.parts a); unused = c.unused; asked = i ∷ c.asked }

-- a content with one group or inner segment more
unfoldable pub with_noted : NotedContent → Noted Made → NotedContent
with_noted c x = record { content = with_segment c.content x.what; unused = c.unused ++ x.unused; asked = c.asked }

-- a specifier tried at i
unfoldable pub named_at : List ℕ → ℕ → ℕ → NotedContent → Tried NotedContent
named_at t e i c =
    specifier_at t i e
    then λ m j. fit (record { content = with_words c.content (with_specifier c.content.parts m); unused = c.unused; asked = c.asked }) j

-- a parameter tried at i: "a lost parameter's place is that of its word or sign, not of its separator"
unfoldable pub asked_at : List ℕ → ℕ → ℕ → NotedContent → Tried NotedContent
asked_at t e i c = parameter_at t i e then λ a j. fit (asked_from c i a) j

-- an item at even or odd depth. What an inner list of words read and gave back leaves no note
unfoldable pub item_noted : Bool → List ℕ → NotedReader → ℕ → ℕ → NotedContent → Tried NotedContent
item_noted false t group_noted e i c =
    named_at t e i c
    or_else λ _. asked_at t e i c
    or_else λ _. group_noted i e c.content.made then λ x j. fit (with_noted c x) j
item_noted true t group_noted e i c =
    (inner_at t i e c.content.made then λ x j. fit (with_noted c (noted x [])) j)
    or_else λ _. asked_at t e i c
    or_else λ _. group_noted i e c.content.made then λ x j. fit (with_noted c x) j

-- what a content leaves unused whose items end at j, and which itself ends at e
unfoldable pub unused_by : NotedContent → ℕ → ℕ → List Unused
unused_by c j e = c.unused ++ (lost_with c.content.taken c.asked ++ dropped_from j e)

-- a content: its items, and what they add up to
unfoldable pub content_noted : Bool → List ℕ → NotedReader → NotedReader
content_noted even t group_noted i e made =
    listed (separator even) t e (item_noted even t group_noted e) i (nothing_noted made)
    then λ c j. built c.content.parts c.content.made j c.content.taken
    then λ x k. fit (noted x (unused_by c j e)) k

-- ---- groups

-- a group with one member more
unfoldable pub with_noted_member : Noted Group → Noted Made → Noted Group
with_noted_member g x = noted (with_member g.what x.what) (g.unused ++ x.unused)

-- a piece of a group: a group keeps its parameters, and text is used
unfoldable pub piece_noted : List ℕ → NotedReader → ℕ → ℕ → Noted Group → Tried (Noted Group)
piece_noted t brace_noted e i g =
    (brace_noted i e g.what.made then λ x j. fit (with_noted_member g x) j)
    or_else λ _. (text_at t i e g.what.made then λ x j. fit (with_noted_member g (noted x [])) j)
    or_else λ _. percent_at t i e then λ a j. fit (noted (with_asked g.what a) g.unused) j

-- a group: pieces as long as they fit. What follows them is left to the content that the group stands in
unfoldable pub group_noted : List ℕ → NotedReader → NotedReader
group_noted t brace_noted i e made =
    repeated (piece_noted t brace_noted e) (e - i) i (noted (no_group made) [])
    then λ g j. closed g.what j
    then λ x k. fit (noted x g.unused) k

-- ---- braces

-- a brace by its closing one: both are used
unfoldable pub brace_noted_to : NotedReader → ℕ → ℕ → Closing → Tried (Noted Made)
brace_noted_to inside i made (Ok (Some c)) = inside (i + 1) c made then λ x j. fit x (c + 1)
brace_noted_to inside i made (Ok None) = misfit
brace_noted_to inside i made (Err r) = refused r

-- a brace tried at i
unfoldable pub brace_noted : List ℕ → NotedReader → NotedReader
brace_noted t inside i e made =
    elim (stands (byte "{") t i e) [
      | true ↦ brace_noted_to inside i made (closing t (e - (i + 1)) (i + 1) 0 false)
      | false ↦ misfit
    ]

-- what stands in a brace where so many depths are left
unfoldable pub inside_noted : ℕ → Bool → List ℕ → NotedReader
inside_noted zero even t = λ i e made. refused Refusal.TooDeep
inside_noted (suc d) even t = content_noted even t (group_noted t (brace_noted t (inside_noted d (not even) t)))

-- ---- the top level

-- one segment of the top level more
unfoldable pub top_noted : List ℕ → ℕ → ℕ → Noted Top → Tried (Noted Top)
top_noted t e i s =
    (brace_noted t (inside_noted 8 false t) i e s.what.made then λ x j. fit (noted (with_top s.what x.what) (s.unused ++ x.unused)) j)
    or_else λ _. text_at t i e s.what.made then λ x j. fit (noted (with_top s.what x) s.unused) j

-- "Where neither fits, reading stops and the rest is dropped" (of a template that is refused nothing is told)
unfoldable pub unused_up_to : ℕ → Tried (Noted Top) → List Unused
unused_up_to e (fit s j) = s.unused ++ dropped_from j e
unused_up_to e misfit = []
unused_up_to e (refused r) = []

-- what a template is read as, from its first byte on, with its notes
unfoldable pub reading_noted : List ℕ → Tried (Noted Top)
reading_noted t = repeated (top_noted t (length t)) (length t) 0 (noted (record { segments = segments.none; made = 0 }) [])

-- all that a template leaves unused, its letters marked
unfoldable pub unused_in : List ℕ → List Unused
unused_in t = unused_up_to (length t) (reading_noted t)
