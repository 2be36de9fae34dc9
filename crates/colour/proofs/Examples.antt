-- Formatted texts, byte for byte. Assumes nothing.
use Prim.Native.Nat.{ℕ}
use mathlib.Core.Path.{◌≡◌, refl}
use mathlib.Core.Bool.{Bool, true, false}
use mathlib.Core.List.{[], ◌∷◌, ◌++◌}
use Rattle.std.specs.Prelude.{Option, Some, None}
use Rattle.buffer.specs.Bytes.{bytes}
use Rattle.utf8.specs.Computing as utf8
use Rattle.characters.specs.Computing as characters
use Rattle.points.specs.Computing as points
use Rattle.widths.specs.declared.Rule.{Rule}
use Rattle.widths.specs.Computing as widths
use Rattle.runs.specs.Computing as runs
use Rattle.colour.specs.Computing as colour
use Rattle.words.specs.declared.Alignment.{Alignment}
use Rattle.words.specs.declared.Alignment.TheVariants.{Left, Center, Right}
use Rattle.words.specs.declared.Color.{Color}
use Rattle.words.specs.declared.Color.TheVariants.{Red}
use Rattle.words.specs.declared.Padding.{Padding}
use Rattle.words.specs.declared.Padding.TheVariants.{Space, Zero}
use Rattle.colour.specs.Modes.{off, off_by, plain, straight, coloured}
use Rattle.colour.specs.declared.Format.{Format}
use Rattle.colour.specs.Sequences.{visible}
use Rattle.colour.specs.Formatting.{formatted}

-- a format: width, alignment, padding, underlined or not, colour
abbrev format_with : ℕ → Alignment → Padding → Bool → Option Color → Format
format_with w a z underlined i = record {
  width = w;
  alignment = a;
  padding = z;
  look = record { styles = record { bold = false; dimmed = false; underline = underlined; italic = false; strike = false }; ink = i };
}

-- `é` is one character, padding stands inside the colour, the prefix comes again after a reset, and only the crate's mode counts it
examples :
    formatted (plain off) (format_with 4 Left Space true (Some Red)) (bytes "é")
    ∷ formatted (plain off) (format_with 7 Center Zero false None) (bytes "INFO")
    ∷ formatted (coloured off) (format_with 4 Right Zero true (Some Red)) (bytes "ab")
    ∷ formatted (coloured off) (format_with 9 Left Space true None) (bytes "a\u{1b}[0mb")
    ∷ formatted (straight off) (format_with 9 Left Space true None) (bytes "a\u{1b}[0mb")
    ∷ formatted (straight off) (format_with 3 Right Space false None) (bytes "\u{1b}[31ma\u{1b}[0m")
    ∷ []
    ≡ bytes "é   "
    ∷ bytes "0INFO00"
    ∷ bytes "\u{1b}[4;31m00ab\u{1b}[0m"
    ∷ bytes "\u{1b}[4ma\u{1b}[0m\u{1b}[4mb   \u{1b}[0m"
    ∷ bytes "\u{1b}[4ma\u{1b}[0m\u{1b}[4mb       \u{1b}[0m"
    ∷ bytes "  \u{1b}[31ma\u{1b}[0m"
    ∷ []
unfolding utf8.computes characters.computes widths.computes runs.computes colour.computes
examples = refl

-- by the places rule `壁` counts two, and the bytes inserted count as bytes by either rule
by_either_rule :
    formatted (plain off) (format_with 6 Left Space false None) (bytes "壁B3")
    ∷ formatted (plain (off_by Rule.Places)) (format_with 6 Left Space false None) (bytes "壁B3")
    ∷ formatted (plain (off_by Rule.Places)) (format_with 7 Center Space false None) (bytes "壁")
    ∷ formatted (coloured (off_by Rule.Places)) (format_with 9 Left Space true None) (bytes "[\u{1b}[31m壁\u{1b}[0m]")
    ∷ formatted (straight (off_by Rule.Places)) (format_with 9 Left Space true None) (bytes "[\u{1b}[31m壁\u{1b}[0m]")
    ∷ []
    ≡ bytes "壁B3   "
    ∷ bytes "壁B3  "
    ∷ bytes "  壁   "
    ∷ bytes "\u{1b}[4m[\u{1b}[31m壁\u{1b}[0m\u{1b}[4m] \u{1b}[0m"
    ∷ bytes "\u{1b}[4m[\u{1b}[31m壁\u{1b}[0m\u{1b}[4m]     \u{1b}[0m"
    ∷ []
unfolding utf8.computes characters.computes points.computes widths.computes runs.computes colour.computes
by_either_rule = refl

-- a sequence may begin in one text and end in the next: what is visible of two texts is not what is visible of each
straddling : visible (bytes "\u{1b}[" ++ bytes "1m") ∷ (visible (bytes "\u{1b}[") ++ visible (bytes "1m")) ∷ [] ≡ [] ∷ bytes "\u{1b}[1m" ∷ []
unfolding utf8.computes characters.computes runs.computes colour.computes
straddling = refl
