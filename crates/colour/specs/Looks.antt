-- Looks: styles and colours that apply, and the prefix that switches them on (document 01, "Building a line"). Assumes nothing.
use Rattle.std.specs.Prelude.{ℕ, ◌≡◌, refl, Bool, true, false, Option, Some, None, List, [], ◌∷◌, ◌++◌}
use Rattle.buffer.specs.Bytes.{bytes}
use Rattle.words.specs.declared.Color.{Color}
use Rattle.words.specs.declared.Color.TheVariants.{Black, Red, Green, Yellow, Blue, Magenta, Cyan, White, BrightBlack, BrightWhite}
use Rattle.words.specs.declared.Styles.{Styles}
use Rattle.colour.specs.declared.Look.{Look}
use Rattle.colour.specs.Sequences.{esc}

-- "one foreground: 30 to 37, 90 bright black, 97 bright white"
unfoldable pub foreground : Color → List ℕ
foreground Black = bytes "30"
foreground Red = bytes "31"
foreground Green = bytes "32"
foreground Yellow = bytes "33"
foreground Blue = bytes "34"
foreground Magenta = bytes "35"
foreground Cyan = bytes "36"
foreground White = bytes "37"
foreground BrightBlack = bytes "90"
foreground BrightWhite = bytes "97"

-- the code of a colour, where one applies
unfoldable pub ink_codes : Option Color → List (List ℕ)
ink_codes None = []
ink_codes (Some c) = foreground c ∷ []

-- a code where it applies, before the others
unfoldable pub where_it_applies : Bool → List ℕ → List (List ℕ) → List (List ℕ)
where_it_applies true code others = code ∷ others
where_it_applies false code others = others

-- "style codes in the order 1 bold, 2 dimmed, 4 underline, 3 italic, 9 strike, then one foreground"
unfoldable pub codes : Look → List (List ℕ)
codes k =
    where_it_applies k.styles.bold (bytes "1")
    (where_it_applies k.styles.dimmed (bytes "2")
    (where_it_applies k.styles.underline (bytes "4")
    (where_it_applies k.styles.italic (bytes "3")
    (where_it_applies k.styles.strike (bytes "9")
    (ink_codes k.ink)))))

-- "joined by `;`": the codes after the first
unfoldable pub following : List (List ℕ) → List ℕ
following [] = []
following (c ∷ cs) = bytes ";" ++ (c ++ following cs)

-- "The prefix is byte 27, `[`, codes joined by `;`, `m`"; there is none where no colour or style applies
unfoldable pub sequence : List (List ℕ) → List ℕ
sequence [] = []
sequence (c ∷ cs) = esc ∷ bytes "[" ++ (c ++ (following cs ++ bytes "m"))

-- the prefix of a look
unfoldable pub prefix : Look → List ℕ
prefix k = sequence (codes k)

bold_italic_bright : prefix (record { styles = record { bold = true; dimmed = false; underline = false; italic = true; strike = false }; ink = Some BrightBlack }) ≡ bytes "\u{1b}[1;3;90m"
unfolding prefix sequence codes where_it_applies following ink_codes foreground
bold_italic_bright = refl
