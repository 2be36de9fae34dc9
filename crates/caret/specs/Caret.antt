-- A place of a text, shown to a person: the line of the text that holds the place, and below it a caret (document 02, E5: "with the place"). Assumes nothing.
use Rattle.std.specs.Prelude.{ℕ, zero, suc, ◌-◌, ◌≡◌, refl, Bool, true, false, not, ◌&&◌, ◌||◌, List, [], ◌∷◌, ◌++◌, eqb, ltb, length, get_or, replicate}
use Rattle.buffer.specs.Bytes.{byte, bytes, part}
use Rattle.utf8.specs.Utf8.{◌to◌, within}
use Rattle.characters.specs.Characters.{begins, chars}
use Rattle.runs.specs.Runs.{run_end}

-- ---- the line that holds a place

-- where the line begins that holds the place p: behind the last newline before it
unfoldable pub line_from : List ℕ → ℕ → ℕ
line_from t zero = zero
line_from t (suc p) = elim (eqb (get_or t p 0) (byte "\n")) [ true ↦ suc p | false ↦ line_from t p ]

-- a byte that does not end a line
unfoldable pub goes_on : ℕ → Bool
goes_on b = not (eqb b (byte "\n"))

-- where that line ends: before the first newline from the place on
abbrev pub line_to : List ℕ → ℕ → ℕ
line_to t p = run_end goes_on t (length t - p) p

-- ---- as it is shown

-- a control character of ASCII, which could disturb a terminal; after a tab the caret would stand elsewhere
unfoldable pub is_control : ℕ → Bool
is_control b = ltb b (byte " ") || eqb b 0x7F

-- the second byte of a control character beyond ASCII, U+0080 to U+009F, which has two; `before` is the byte before it
unfoldable pub ends_control : ℕ → ℕ → Bool
ends_control before b = eqb before 0xC2 && within (0x80 to 0x9F) b

-- the byte b behind another as it is shown: `?` for a control character; one of two bytes becomes the turned question mark, U+00BF, which has two as well
unfoldable pub harmless : ℕ → ℕ → ℕ
harmless before b = elim (is_control b) [ true ↦ byte "?" | false ↦ elim (ends_control before b) [ true ↦ 0xBF | false ↦ b ] ]

-- a text behind that byte as it is shown
unfoldable pub harmless_behind : ℕ → List ℕ → List ℕ
harmless_behind before [] = []
harmless_behind before (b ∷ s) = harmless before b ∷ harmless_behind b s

-- the line that holds the place, as it is shown, and a newline
unfoldable pub shown_line : List ℕ → ℕ → List ℕ
shown_line t p = harmless_behind 0 (part (line_from t p) (line_to t p) t) ++ bytes "\n"

-- the caret below the place, and a newline: each character of the line before it takes one column
unfoldable pub caret_line : List ℕ → ℕ → List ℕ
caret_line t p = replicate (chars (part (line_from t p) p t)) (byte " ") ++ bytes "^\n"

the_technician : shown_line (bytes "{s} %{t}") 4 ++ caret_line (bytes "{s} %{t}") 4 ≡ bytes "{s} %{t}\n    ^\n"
unfolding shown_line caret_line line_from goes_on run_end harmless_behind harmless is_control ends_control within begins
the_technician = refl

second_line : shown_line (bytes "{L}\n\té {s x}\n") 10 ++ caret_line (bytes "{L}\n\té {s x}\n") 10 ≡ bytes "?é {s x}\n     ^\n"
unfolding shown_line caret_line line_from goes_on run_end harmless_behind harmless is_control ends_control within begins
second_line = refl
