-- Comparison reports (document 02, E10; in the crate: `color_diff`): a message whose last two lines hold two values is laid out as a tree of runs.
-- Assumes nothing.
use Rattle.std.specs.Prelude.{Option, Some, None, ℕ, suc, ◌+◌, ◌-◌, Bool, true, false, ◌&&◌, List, [], ◌∷◌, ◌++◌, eqb, leb, length, take, drop}
use Rattle.buffer.specs.Bytes.{byte, bytes, same}
use Rattle.utf8.specs.Utf8.{within, trail}
use Rattle.buffer.specs.Table.{Maybe, none, some}
use Rattle.words.specs.declared.Alignment.TheVariants.{Left}
use Rattle.words.specs.declared.Padding.TheVariants.{Space}
use Rattle.words.specs.declared.Color.{Color}
use Rattle.words.specs.declared.Color.TheVariants.{Red, Green}
use Rattle.words.specs.declared.Styles.{Styles}
use Rattle.colour.specs.declared.Format.{Format}
use Rattle.colour.specs.Sequences.{starts_with}
use Rattle.colour.specs.Shown.{Shown, text, specifier, group, Members, more, joined}
use Rattle.colour.specs.Shown as shown

-- ---- lines

-- one byte more at the front of the first
unfoldable pub before_line : ℕ → List (List ℕ) → List (List ℕ)
before_line b [] = (b ∷ []) ∷ []
before_line b (x ∷ rest) = (b ∷ x) ∷ rest

-- "Rust's `lines`": each ends at a newline, which is no part of it, nor is a `\r` right before it; bytes after the last newline are a line too
unfoldable pub lines : List ℕ → List (List ℕ)
lines [] = []
lines (b ∷ s) =
    elim (eqb b 0x0A) [
      | true ↦ [] ∷ lines s
      | false ↦ elim (starts_with (bytes "\r\n") (b ∷ s)) [ true ↦ lines s | false ↦ before_line b (lines s) ]
    ]

-- joined by newlines
unfoldable pub joined_by_newline : List (List ℕ) → List ℕ
joined_by_newline [] = []
joined_by_newline (x ∷ []) = x
joined_by_newline (x ∷ (y ∷ rest)) = x ++ (bytes "\n" ++ joined_by_newline (y ∷ rest))

-- ---- what is compared

-- the lines before the last two, joined, and the two values
pub record Comparison : Type 0 where
  pub head : List ℕ
  pub left : List ℕ
  pub right : List ℕ

-- the byte s ends with
unfoldable pub ends_with : ℕ → List ℕ → Bool
ends_with b [] = false
ends_with b (a ∷ []) = eqb a b
ends_with b (a ∷ (c ∷ s)) = ends_with b (c ∷ s)

-- the value between an opening mark and the closing one, "the starts and ends it tests": "Where either of those two is only its opening mark the
-- crate panics; here the message is ordinary text", so that a line has a byte more than the mark
unfoldable pub value_in : List ℕ → List ℕ → Maybe (List ℕ)
value_in mark x =
    elim (starts_with mark x && ends_with (byte "`") x && leb (length mark + 1) (length x)) [
      | true ↦ some (take (length x - (length mark + 1)) (drop (length mark) x))
      | false ↦ none
    ]

-- a comparison where there are two values
unfoldable pub comparing : List (List ℕ) → Maybe (List ℕ) → Maybe (List ℕ) → Maybe Comparison
comparing head none r = none
comparing head (some l) none = none
comparing head (some l) (some r) = some (record { head = joined_by_newline head; left = l; right = r })

-- "of more than two lines", the last two
unfoldable pub by_lines : List (List ℕ) → List (List ℕ) → Maybe Comparison
by_lines head [] = none
by_lines head (x ∷ []) = none
by_lines [] (x ∷ (y ∷ [])) = none
by_lines (h ∷ head) (x ∷ (y ∷ [])) = comparing (h ∷ head) (value_in (bytes " left: `") x) (value_in (bytes "right: `") y)
by_lines head (x ∷ (y ∷ (z ∷ rest))) = by_lines (head ++ x ∷ []) (y ∷ (z ∷ rest))

-- what a message compares, if it does
unfoldable pub comparison : List ℕ → Maybe Comparison
comparison m = by_lines [] (lines m)

-- ---- what is shared

-- whether what follows goes on with the character before it
unfoldable pub continues : List ℕ → Bool
continues [] = false
continues (c ∷ s) = within trail c

-- the characters of a text, each with its bytes
unfoldable pub characters : List ℕ → List (List ℕ)
characters [] = []
characters (b ∷ s) = elim (continues s) [ true ↦ before_line b (characters s) | false ↦ (b ∷ []) ∷ characters s ]

-- their bytes
unfoldable pub all_of : List (List ℕ) → List ℕ
all_of [] = []
all_of (x ∷ rest) = x ++ all_of rest

-- how many characters two texts share at their beginning
unfoldable pub shared : List (List ℕ) → List (List ℕ) → ℕ
shared [] y = 0
shared (a ∷ x) [] = 0
shared (a ∷ x) (b ∷ y) = elim (same a b) [ true ↦ suc (shared x y) | false ↦ 0 ]

-- from the last to the first
unfoldable pub backwards : List (List ℕ) → List (List ℕ)
backwards [] = []
backwards (a ∷ x) = backwards x ++ a ∷ []

-- ---- the layout

-- no style
abbrev pub plain_styles : Styles
plain_styles = record { bold = false; dimmed = false; underline = false; italic = false; strike = false }

-- bold alone
abbrev pub bold_styles : Styles
bold_styles = record { bold = true; dimmed = false; underline = false; italic = false; strike = false }

-- a look without width
abbrev pub run_format : Styles → Option Color → Format
run_format y i = record { width = 0; alignment = Left; padding = Space; look = record { styles = y; ink = i } }

-- a run of a text, left out where it is empty
unfoldable pub one_run : Styles → Option Color → List ℕ → Members → Members
one_run y i [] m = m
one_run y i (b ∷ s) m = more (specifier (run_format y i) (b ∷ s)) m

-- a value by what it shares with the other: n characters at the beginning, k at the end
unfoldable pub runs : Color → List (List ℕ) → ℕ → ℕ → Members → Members
runs c x n k m =
    one_run plain_styles (Some c) (all_of (take n x))
    (one_run bold_styles (Some c) (all_of (take (length x - (n + k)) (drop n x)))
    (one_run plain_styles (Some c) (all_of (drop (length x - k) x)) m))

-- the head, the title, and the two values below each other
unfoldable pub layout_of : List ℕ → List (List ℕ) → List (List ℕ) → ℕ → ℕ → Members
layout_of head x y n k =
    more (specifier (run_format bold_styles None) head)
    (more (text (bytes "\n"))
    (more (specifier (run_format bold_styles None) (bytes "diff"))
    (more (text (bytes " "))
    (more (specifier (run_format plain_styles (Some Red)) (bytes "< left"))
    (more (text (bytes " / "))
    (more (specifier (run_format plain_styles (Some Green)) (bytes "right >"))
    (more (text (bytes "\n"))
    (more (specifier (run_format plain_styles (Some Red)) (bytes "<"))
    (runs Red x n k
    (more (text (bytes "\n"))
    (more (specifier (run_format plain_styles (Some Green)) (bytes ">"))
    (runs Green y n k shown.none))))))))))))

-- "the longest shared beginning, then the longest shared end of what remains, in whole characters"
unfoldable pub layout : Comparison → Members
layout c =
    let x = characters c.left in
    let y = characters c.right in
    let n = shared x y in
    layout_of c.head x y n (shared (backwards (drop n x)) (backwards (drop n y)))

-- a group without width or look adds nothing to its members
abbrev pub bare_format : Format
bare_format = run_format plain_styles None

-- the layout of a comparison, or else what is shown where there is none
unfoldable pub laid_or_else : Shown → Maybe Comparison → Shown
laid_or_else x none = x
laid_or_else x (some c) = group bare_format (layout c)
