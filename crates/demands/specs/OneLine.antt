-- One line in its three modes, and why demand 3 asks that no text shown holds byte 27. Assumes nothing.
use Rattle.std.specs.Prelude.{Option, Some, None, ℕ, ◌≡◌, refl, true, false, [], ◌∷◌}
use Rattle.buffer.specs.Bytes.{bytes}
use Rattle.widths.specs.declared.Rule.{Rule}
use Rattle.words.specs.declared.Alignment.TheVariants.{Left}
use Rattle.words.specs.declared.Color.TheVariants.{Red}
use Rattle.words.specs.declared.Padding.TheVariants.{Space}
use Rattle.words.specs.declared.Styles.{Styles}
use Rattle.colour.specs.declared.Settings.{Settings}
use Rattle.words.specs.declared.Color.{Color}
use Rattle.colour.specs.declared.Format.{Format}
use Rattle.colour.specs.Sequences.{visible}
use Rattle.colour.specs.Shown.{text, specifier, group, Members, none, more, joined}
use Rattle.utf8.specs.Computing as utf8
use Rattle.characters.specs.Computing as characters
use Rattle.points.specs.Computing as points
use Rattle.widths.specs.Computing as widths
use Rattle.runs.specs.Computing as runs
use Rattle.colour.specs.Computing as colour
use Rattle.parts.specs.Parts.{unstyled}
use Rattle.colour.specs.Modes.{off, off_by, plain, straight, coloured}

-- left-aligned, padded with spaces, in a width
abbrev left_in : ℕ → Styles → Option Color → Format
left_in w styles ink = record { width = w; alignment = Left; padding = Space; look = record { styles = styles; ink = ink } }

-- bold alone
abbrev bold : Styles
bold = record { bold = true; dimmed = false; underline = false; italic = false; strike = false }

-- what `{[{L}]%bold%<9}|{s}` shows of an ERROR `hello`
abbrev pub error_hello : Members
error_hello =
    more (group (left_in 9 bold None) (more (text (bytes "[")) (more (specifier (left_in 5 unstyled (Some Red)) (bytes "ERROR")) (more (text (bytes "]")) none))))
    (more (text (bytes "|"))
    (more (specifier (left_in 0 unstyled None) (bytes "hello")) none))

-- two due, four inserted: visible in the crate's mode, visible in straight mode, plain; and the bytes of straight mode
three_modes :
    visible (joined (coloured off) error_hello)
    ∷ visible (joined (straight off) error_hello)
    ∷ joined (plain off) error_hello
    ∷ joined (straight off) error_hello
    ∷ []
    ≡ bytes "[ERROR]|hello"
    ∷ bytes "[ERROR]  |hello"
    ∷ bytes "[ERROR]  |hello"
    ∷ bytes "\u{1b}[1m[\u{1b}[31mERROR\u{1b}[0m\u{1b}[1m]  \u{1b}[0m|hello"
    ∷ []
unfolding utf8.computes characters.computes points.computes widths.computes runs.computes colour.computes
three_modes = refl

-- what `{s:6}|` shows of `壁B3`, a site's name
abbrev pub site_name : Members
site_name = more (specifier (left_in 6 unstyled None) (bytes "壁B3")) (more (text (bytes "|")) none)

-- by the crate's rule it takes seven places of a screen, by the places rule six
two_rules : joined (plain off) site_name ∷ joined (plain (off_by Rule.Places)) site_name ∷ [] ≡ bytes "壁B3   |" ∷ bytes "壁B3  |" ∷ []
unfolding utf8.computes characters.computes points.computes widths.computes runs.computes colour.computes
two_rules = refl

-- a text that is a colour sequence is not seen in straight mode, and it is written with colour off
premise_needed :
    visible (joined (straight off) (more (text (bytes "\u{1b}[1m")) none)) ∷ joined (plain off) (more (text (bytes "\u{1b}[1m")) none) ∷ []
    ≡ [] ∷ bytes "\u{1b}[1m" ∷ []
unfolding utf8.computes characters.computes points.computes widths.computes runs.computes colour.computes
premise_needed = refl
