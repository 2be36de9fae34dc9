-- Reading a template (document 01, "Reading a template"). A template t is read from a place i up to an end e; so many segments are made
-- before. Assumes nothing.
use Rattle.std.specs.Prelude.{Some, None, Ok, Err, ℕ, zero, suc, ◌+◌, ◌-◌, Bool, true, false, not, ◌||◌, List, eqb, ltb, length}
use Rattle.buffer.specs.Bytes.{byte}
use Rattle.buffer.specs.Table.{Maybe, none, some}
use Rattle.refusals.specs.declared.Refusal.{Refusal}
use Rattle.words.specs.declared.Parameter.{Parameter}
use Rattle.runs.specs.Runs.{stands, run_end}
use Rattle.words.specs.Trying.{Tried, fit, misfit, refused, ◌or_else◌, ◌then◌, repeated, listed}
use Rattle.words.specs.Words.{specifier_at, parameter_at}
use Rattle.parts.specs.declared.Parts.{Parts}
use Rattle.segments.specs.Segments.{LogSegment, LogSegments, text, group, ◌and_then◌, any_specifier}
use Rattle.segments.specs.Segments as segments
use Rattle.parts.specs.Parts.{no_parts, has_specifier, with_specifier, with_parameter, segment_of}
use Rattle.braces.specs.Braces.{Closing, closing}

-- ---- segments are made

-- a segment, and how many are made with it
pub record Made : Type 0 where
  pub segment : LogSegment
  pub made : ℕ

-- from a place, up to an end, with so many segments made
abbrev pub Reader : Type 0
Reader = ℕ → ℕ → ℕ → Tried Made

-- "Each text, specifier and group is a segment, made when complete". Refusal 5: "a 65th segment is made"
unfoldable pub make : LogSegment → ℕ → ℕ → Tried Made
make x made j = elim (ltb made 64) [ true ↦ fit (record { segment = x; made = made + 1 }) j | false ↦ refused Refusal.TooManySegments ]

-- the segment made, where there is one to be made; else what is answered instead
unfoldable pub make_or : Tried Made → ℕ → ℕ → Maybe LogSegment → Tried Made
make_or instead made j none = instead
make_or instead made j (some x) = make x made j

-- "text (one or more bytes up to `{` or `%`)"
unfoldable pub plain_byte : ℕ → Bool
plain_byte b = not (eqb b (byte "{") || eqb b (byte "%"))

-- a text from i up to j, if it has a byte
unfoldable pub text_to : ℕ → ℕ → ℕ → Tried Made
text_to i made j = elim (ltb i j) [ true ↦ make (text i j) made j | false ↦ misfit ]

-- a text tried at i
unfoldable pub text_at : List ℕ → Reader
text_at t i e made = text_to i made (run_end plain_byte t (e - i) i)

-- ---- lists of words

-- a specifier or a parameter, added to what the words before it gave
unfoldable pub word_at : List ℕ → ℕ → ℕ → Parts → Tried Parts
word_at t e i p =
    (specifier_at t i e then λ m j. fit (with_specifier p m) j)
    or_else λ _. parameter_at t i e then λ a j. fit (with_parameter p a) j

-- "a `:`-list of specifier and parameters that makes a segment"; it misfits where a content would be 3
unfoldable pub inner_at : List ℕ → Reader
inner_at t i e made = listed (byte ":") t e (word_at t e) i no_parts then λ p j. make_or misfit made j (segment_of p)

-- ---- contents

-- the group or inner segment that a content takes
pub data Taken : Type 0 where
  nothing : Taken
  one : LogSegment → Taken
  several : Taken

-- what the items of a content have given so far
pub record Content : Type 0 where
  pub parts : Parts
  pub taken : Taken
  pub made : ℕ

-- a content with what its words give
unfoldable pub with_words : Content → Parts → Content
with_words c p = record { parts = p; taken = c.taken; made = c.made }

-- the segments that a content takes, with one more
unfoldable pub taking : Taken → LogSegment → Taken
taking nothing x = one x
taking (one y) x = several
taking several x = several

-- a content with one group or inner segment more
unfoldable pub with_segment : Content → Made → Content
with_segment c x = record { parts = c.parts; taken = taking c.taken x.segment; made = x.made }

-- "Content at odd depth: items split by `:`, each tried as specifier, parameter, group"
unfoldable pub odd_item : List ℕ → Reader → ℕ → ℕ → Content → Tried Content
odd_item t group_at e i c =
    (word_at t e i c.parts then λ p j. fit (with_words c p) j)
    or_else λ _. group_at i e c.made then λ x j. fit (with_segment c x) j

-- "At even depth: items split by `%`, each tried as a `:`-list of specifier and parameters that makes a segment, then parameter, then group"
unfoldable pub even_item : List ℕ → Reader → ℕ → ℕ → Content → Tried Content
even_item t group_at e i c =
    (inner_at t i e c.made then λ x j. fit (with_segment c x) j)
    or_else λ _. (parameter_at t i e then λ a j. fit (with_words c (with_parameter c.parts a)) j)
    or_else λ _. group_at i e c.made then λ x j. fit (with_segment c x) j

-- "Content with one group or inner segment takes that and loses its own parameters; a specifier with a group, or two groups or inner
-- segments, is 3"
unfoldable pub built : Parts → ℕ → ℕ → Taken → Tried Made
built p made j nothing = make_or (refused Refusal.Failure) made j (segment_of p)
built p made j (one x) = elim (p.twice || has_specifier p.metadata) [ true ↦ refused Refusal.Failure | false ↦ fit (record { segment = x; made = made }) j ]
built p made j several = refused Refusal.Failure

-- a content before its first item
unfoldable pub no_content : ℕ → Content
no_content made = record { parts = no_parts; taken = nothing; made = made }

-- an item at even or odd depth
unfoldable pub item_at : Bool → List ℕ → Reader → ℕ → ℕ → Content → Tried Content
item_at true t group_at e i c = even_item t group_at e i c
item_at false t group_at e i c = odd_item t group_at e i c

-- `%` at even depth, `:` at odd
unfoldable pub separator : Bool → ℕ
separator true = byte "%"
separator false = byte ":"

-- a content: its items, and what they add up to
unfoldable pub content_at : Bool → List ℕ → Reader → Reader
content_at even t group_at i e made = listed (separator even) t e (item_at even t group_at e) i (no_content made) then λ c j. built c.parts c.made j c.taken

-- ---- groups

-- what a group has so far
pub record Group : Type 0 where
  pub members : LogSegments
  pub parts : Parts
  pub made : ℕ

-- a group with one member more
unfoldable pub with_member : Group → Made → Group
with_member g x = record { members = g.members and_then x.segment; parts = g.parts; made = x.made }

-- a group with one parameter more
unfoldable pub with_asked : Group → Parameter → Group
with_asked g a = record { members = g.members; parts = with_parameter g.parts a; made = g.made }

-- "a `%` with a bad parameter is 3"
unfoldable pub percent_at : List ℕ → ℕ → ℕ → Tried Parameter
percent_at t i e = elim (stands (byte "%") t i e) [ true ↦ parameter_at t (i + 1) e or_else λ _. refused Refusal.Failure | false ↦ misfit ]

-- "Group: braces, texts and `%`parameters"
unfoldable pub piece_at : List ℕ → Reader → ℕ → ℕ → Group → Tried Group
piece_at t brace_at e i g =
    (brace_at i e g.made then λ x j. fit (with_member g x) j)
    or_else λ _. (text_at t i e g.made then λ x j. fit (with_member g x) j)
    or_else λ _. percent_at t i e then λ a j. fit (with_asked g a) j

-- "It needs at least one specifier as a direct member, else 3"
unfoldable pub closed : Group → ℕ → Tried Made
closed g j =
    elim g.parts.twice [
      | true ↦ refused Refusal.Failure
      | false ↦ elim (any_specifier g.members) [
        | true ↦ make (group g.members g.parts.format) g.made j
        | false ↦ refused Refusal.Failure
      ]
    ]

-- a group before its first piece
unfoldable pub no_group : ℕ → Group
no_group made = record { members = segments.none; parts = no_parts; made = made }

-- a group: pieces as long as they fit
unfoldable pub group_at : List ℕ → Reader → Reader
group_at t brace_at i e made = repeated (piece_at t brace_at e) (e - i) i (no_group made) then closed

-- ---- braces

-- "No match: the brace doesn't fit. Bytes of its content left unread are dropped"
unfoldable pub brace_to : Reader → ℕ → ℕ → Closing → Tried Made
brace_to inside i made (Ok (Some c)) = inside (i + 1) c made then λ x j. fit x (c + 1)
brace_to inside i made (Ok None) = misfit
brace_to inside i made (Err r) = refused r

-- a brace tried at i: `{`, its content, `}`
unfoldable pub brace_at : List ℕ → Reader → Reader
brace_at t inside i e made =
    elim (stands (byte "{") t i e) [
      | true ↦ brace_to inside i made (closing t (e - (i + 1)) (i + 1) 0 false)
      | false ↦ misfit
    ]

-- "So a group holds braces and a brace may hold a group": what stands in a brace where so many depths are left, the even ones and the odd.
-- Refusal 6: "a closed brace is entered at depth 9 (outermost is 1)"
unfoldable pub inside_at : ℕ → Bool → List ℕ → Reader
inside_at zero even t = λ i e made. refused Refusal.TooDeep
inside_at (suc d) even t = content_at even t (group_at t (brace_at t (inside_at d (not even) t)))

-- a brace, a group and an item where so many depths are left
abbrev pub brace_in : ℕ → Bool → List ℕ → Reader
brace_in d even t = brace_at t (inside_at d even t)

-- a group in such a brace
abbrev pub group_in : ℕ → Bool → List ℕ → Reader
group_in d even t = group_at t (brace_in d even t)

-- an item of such a brace's content
abbrev pub item_in : ℕ → Bool → List ℕ → ℕ → ℕ → Content → Tried Content
item_in d even t e i c = item_at even t (group_in d (not even) t) e i c

-- ---- the top level

-- what the top level has so far
pub record Top : Type 0 where
  pub segments : LogSegments
  pub made : ℕ

-- the top level with one segment more
unfoldable pub with_top : Top → Made → Top
with_top s x = record { segments = s.segments and_then x.segment; made = x.made }

-- "Top level: a brace, else text"
abbrev pub top_segment_at : List ℕ → ℕ → ℕ → Tried Made
top_segment_at t i made = brace_in 8 false t i (length t) made or_else λ _. text_at t i (length t) made

-- one segment of the top level more
unfoldable pub top_at : List ℕ → ℕ → ℕ → Top → Tried Top
top_at t e i s =
    (brace_in 8 false t i e s.made then λ x j. fit (with_top s x) j)
    or_else λ _. text_at t i e s.made then λ x j. fit (with_top s x) j
