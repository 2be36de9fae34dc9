-- Scaffolding, for proofs alone: what the places found in a message mean. Assumes nothing.
use Rattle.std.specs.Prelude.{ℕ, ◌+◌, ◌-◌, ◌/◌, ◌≤◌, ◌<◌, ◌≡◌, true, false, Option, Some, None, List, [], ◌∷◌, ◌++◌, eqb, length, take, drop, get_or}
use Rattle.buffer.specs.Bytes.{bytes, part}
use Rattle.buffer.specs.Table.{Maybe, none, some}
use Rattle.utf8.specs.Windows.{alike}
use Rattle.words.specs.declared.Color.{Color}
use Rattle.words.specs.declared.Color.TheVariants.{Red, Green}
use Rattle.colour.specs.Shown.{text, specifier, Members, more}
use Rattle.colour.specs.Shown as shown
use Rattle.comparisons.specs.Comparisons.{lines, joined_by_newline, Comparison, value_in, comparing, characters, all_of, shared, backwards, plain_styles, bold_styles, run_format, one_run, layout}
use Rattle.comparisons.specs.declared.Lined.{Lined}
use Rattle.comparisons.specs.declared.LastTwo.{LastTwo}
use Rattle.comparisons.specs.declared.Pair.{Pair}
use Rattle.comparisons.specs.declared.Span.{Span}
use Rattle.comparisons.specs.declared.Spans.{Spans}
use Rattle.comparisons.specs.declared.Value.{Value}

-- ---- lines

-- a line's bytes before its newline, without a `\r` at their end
unfoldable pub trimmed : List ℕ → List ℕ
trimmed [] = []
trimmed (b ∷ []) = elim (eqb b 0x0D) [ true ↦ [] | false ↦ b ∷ [] ]
trimmed (b ∷ (c ∷ s)) = b ∷ trimmed (c ∷ s)

-- lines with a newline before each
unfoldable pub on_new_lines : List (List ℕ) → List ℕ
on_new_lines [] = []
on_new_lines (x ∷ rest) = bytes "\n" ++ (x ++ on_new_lines rest)

-- the head from place i up to place e
abbrev pub head_text : ℕ → ℕ → List ℕ → List ℕ
head_text i e d = joined_by_newline (lines (part i e d))

-- a message without the newline that ends its last line
unfoldable pub unended : List ℕ → List ℕ
unended [] = []
unended (b ∷ []) = elim (eqb b 0x0A) [ true ↦ [] | false ↦ b ∷ [] ]
unended (b ∷ (c ∷ [])) = elim (eqb c 0x0A) [ true ↦ trimmed (b ∷ []) | false ↦ b ∷ (c ∷ []) ]
unended (b ∷ (c ∷ (e ∷ s))) = b ∷ unended (c ∷ (e ∷ s))

-- a text x that ends its line l, whatever follows
abbrev pub Closed : List ℕ → List ℕ → Type 0
Closed x l = (y : List ℕ) → lines (x ++ y) ≡ l ∷ lines y

-- the line that begins at i, in a text up to e
pub record LineAt (d : List ℕ) (i e : ℕ) (r : Lined) : Type 0 where
  pub after : i ≤ r.end
  pub before : r.end ≤ r.next
  pub onward : i < r.next
  pub inside : r.next ≤ e
  pub first : lines (part i e d) ≡ part i r.end d ∷ lines (part r.next e d)
  pub closed : r.next < e → Closed (part i r.next d) (part i r.end d)

-- the first newline of a text, if there is one
abbrev pub FirstNewline : List ℕ → Option ℕ → Type 0
FirstNewline t None = (k : ℕ) → k < length t → get_or t k 0 ≡ 0x0A → ⊥
FirstNewline t (Some n) = (n < length t) × (get_or t n 0 ≡ 0x0A) × ((k : ℕ) → k < n → get_or t k 0 ≡ 0x0A → ⊥)

-- the last two lines of a text, with what stands before them
unfoldable pub by_ending : List ℕ → ℕ → Option LastTwo → Maybe Comparison
by_ending d from None = none
by_ending d from (Some p) = comparing (lines (part from p.left.from d)) (value_in (bytes " left: `") (part p.left.from p.left.to d)) (value_in (bytes "right: `") (part p.right.from p.right.to d))

-- one after the other
abbrev pub EndingWithin : ℕ → ℕ → Option LastTwo → Type 0
EndingWithin from to None = Unit {0}
EndingWithin from to (Some p) = ((from ≤ p.left.from) × (p.left.from ≤ p.left.to)) × ((p.left.to ≤ p.right.from) × ((p.right.from ≤ p.right.to) × (p.right.to ≤ to)))

-- ---- values

-- the value at a place, if there is one
unfoldable pub value_between : List ℕ → Option Span → Maybe (List ℕ)
value_between d None = none
value_between d (Some v) = some (part v.from v.to d)

-- a value stands between the marks of its line
abbrev pub BetweenMarks : Span → Option Span → Type 0
BetweenMarks line None = Unit {0}
BetweenMarks line (Some v) = (line.from + 8 ≡ v.from) × ((v.from ≤ v.to) × (v.to + 1 ≡ line.to))

-- ---- where characters begin

-- b goes on with no character
abbrev pub Starts : ℕ → Type 0
Starts b = alike (b / 64) 2 ≡ 0

-- the first byte of a text that begins a character, if there is one
abbrev pub FirstStart : List ℕ → Option ℕ → Type 0
FirstStart t None = (k : ℕ) → k < length t → Starts (get_or t k 0) → ⊥
FirstStart t (Some n) = (n < length t) × Starts (get_or t n 0) × ((k : ℕ) → k < n → Starts (get_or t k 0) → ⊥)

-- the last one
abbrev pub LastStart : List ℕ → Option ℕ → Type 0
LastStart t None = (k : ℕ) → k < length t → Starts (get_or t k 0) → ⊥
LastStart t (Some n) = (n < length t) × Starts (get_or t n 0) × ((k : ℕ) → n < k → k < length t → Starts (get_or t k 0) → ⊥)

-- ---- what is shared

-- the texts from i up to e and from j up to f share the characters up to the two places
pub record Beginning (d : List ℕ) (i e j f : ℕ) (r : Pair) : Type 0 where
  pub left_inside : (i ≤ r.left) × (r.left ≤ e)
  pub right_inside : (j ≤ r.right) × (r.right ≤ f)
  pub left_shared : all_of (take (shared (characters (part i e d)) (characters (part j f d))) (characters (part i e d))) ≡ part i r.left d
  pub right_shared : all_of (take (shared (characters (part i e d)) (characters (part j f d))) (characters (part j f d))) ≡ part j r.right d
  pub left_remains : drop (shared (characters (part i e d)) (characters (part j f d))) (characters (part i e d)) ≡ characters (part r.left e d)
  pub right_remains : drop (shared (characters (part i e d)) (characters (part j f d))) (characters (part j f d)) ≡ characters (part r.right f d)

-- how many characters two texts share at their end
abbrev pub shared_end : List (List ℕ) → List (List ℕ) → ℕ
shared_end x y = shared (backwards x) (backwards y)

-- they share the characters from the two places on
pub record End (d : List ℕ) (i e j f : ℕ) (r : Pair) : Type 0 where
  pub left_inside : (i ≤ r.left) × (r.left ≤ e)
  pub right_inside : (j ≤ r.right) × (r.right ≤ f)
  pub left_middle : all_of (take (length (characters (part i e d)) - shared_end (characters (part i e d)) (characters (part j f d))) (characters (part i e d))) ≡ part i r.left d
  pub right_middle : all_of (take (length (characters (part j f d)) - shared_end (characters (part i e d)) (characters (part j f d))) (characters (part j f d))) ≡ part j r.right d
  pub left_shared : all_of (drop (length (characters (part i e d)) - shared_end (characters (part i e d)) (characters (part j f d))) (characters (part i e d))) ≡ part r.left e d
  pub right_shared : all_of (drop (length (characters (part j f d)) - shared_end (characters (part i e d)) (characters (part j f d))) (characters (part j f d))) ≡ part r.right f d

-- ---- the layout by places

-- a value in three runs
unfoldable pub three_runs : Color → List ℕ → Value → Members → Members
three_runs c d v m = one_run plain_styles (Some c) (part v.from v.begun d) (one_run bold_styles (Some c) (part v.begun v.rest d) (one_run plain_styles (Some c) (part v.rest v.to d) m))

-- a layout: a head and the values at their places
unfoldable pub placed : List ℕ → List ℕ → Spans → Members
placed head d s =
    more (specifier (run_format bold_styles None) head)
    (more (text (bytes "\n"))
    (more (specifier (run_format bold_styles None) (bytes "diff"))
    (more (text (bytes " "))
    (more (specifier (run_format plain_styles (Some Red)) (bytes "< left"))
    (more (text (bytes " / "))
    (more (specifier (run_format plain_styles (Some Green)) (bytes "right >"))
    (more (text (bytes "\n"))
    (more (specifier (run_format plain_styles (Some Red)) (bytes "<"))
    (three_runs Red d s.left
    (more (text (bytes "\n"))
    (more (specifier (run_format plain_styles (Some Green)) (bytes ">"))
    (three_runs Green d s.right shown.none))))))))))))

-- the layout that the places of a message say
unfoldable pub layout_by : List ℕ → ℕ → Option Spans → Maybe Members
layout_by d from None = none
layout_by d from (Some s) = some (placed (head_text from s.head d) d s)

-- the layout of a comparison
unfoldable pub layout_for : Maybe Comparison → Maybe Members
layout_for none = none
layout_for (some c) = some (layout c)

-- the places of a value, one after the other
pub record Ordered (v : Value) : Type 0 where
  pub begins : v.from ≤ v.begun
  pub goes_on : v.begun ≤ v.rest
  pub ends : v.rest ≤ v.to

-- the places of a message from place `from` up to place `to`, one after the other
abbrev pub SpansWithin : ℕ → ℕ → Option Spans → Type 0
SpansWithin from to None = Unit {0}
SpansWithin from to (Some s) = ((from ≤ s.head) × (s.head < s.left.from)) × (((s.left.to ≤ s.right.from) × (s.right.to ≤ to)) × (Ordered s.left × Ordered s.right))

-- the places of two values
pub record SpansOf (d : List ℕ) (head i e j f : ℕ) (s : Spans) : Type 0 where
  pub head_is : s.head ≡ head
  pub left_is : s.left.from ≡ i
  pub left_to : s.left.to ≡ e
  pub right_is : s.right.from ≡ j
  pub right_to : s.right.to ≡ f
  pub left_ordered : Ordered s.left
  pub right_ordered : Ordered s.right
  pub laid : (h : List ℕ) → placed h d s ≡ layout (record { head = h; left = part i e d; right = part j f d })
