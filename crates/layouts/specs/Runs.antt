-- Scaffolding, for proofs alone: a layout as a list of runs, by the places of a comparison. Assumes nothing.
use Rattle.std.specs.Prelude.{ℕ, ◌≤◌, ◌≡◌, Bool, true, false, List, [], ◌∷◌, ◌++◌, eqb, length}
use Rattle.buffer.specs.Bytes.{bytes, part}
use Rattle.words.specs.declared.Color.TheVariants.{Red, Green}
use Rattle.words.specs.declared.Color.{Color}
use Rattle.std.specs.Prelude.{Option, Some, None}
use Rattle.colour.specs.declared.Settings.{Settings}
use Rattle.colour.specs.Looks.{prefix}
use Rattle.colour.specs.Formatting.{formatted}
use Rattle.colour.specs.Shown.{joined}
use Rattle.comparisons.specs.declared.Spans.{Spans}
use Rattle.comparisons.specs.Comparisons.{run_format}
use Rattle.comparisons.specs.Places.{head_text, placed}
use Rattle.layouts.specs.declared.text.Text.{Text}
use Rattle.layouts.specs.declared.text.Text.TheVariants.{Head, Part, Fixed}
use Rattle.layouts.specs.Texts.{text_bytes, TextWithin}
use Rattle.layouts.specs.declared.Run.{Run}

-- the prefixes of the looks, one after the other
abbrev pub prefixes : List ℕ
prefixes = bytes "\u{1b}[1m\u{1b}[31m\u{1b}[32m\u{1b}[1;31m\u{1b}[1;32m"

-- a text in a look, and the place of the look's prefix
abbrev pub run_of : Bool → Option Color → ℕ → ℕ → Text → Run
run_of b i from to x = record {
  format = run_format (record { bold = b; dimmed = false; underline = false; italic = false; strike = false }) i;
  from = from;
  to = to;
  text = x;
}

-- the looks of a layout
abbrev pub bare_run : Text → Run
bare_run x = run_of false None 0 0 x

abbrev pub bold_run : Text → Run
bold_run x = run_of true None 0 4 x

abbrev pub red_run : Text → Run
red_run x = run_of false (Some Red) 4 9 x

abbrev pub green_run : Text → Run
green_run x = run_of false (Some Green) 9 14 x

abbrev pub bold_red_run : Text → Run
bold_red_run x = run_of true (Some Red) 14 21 x

abbrev pub bold_green_run : Text → Run
bold_green_run x = run_of true (Some Green) 21 28 x

-- one that shows nothing
abbrev pub no_run : Run
no_run = bare_run (Fixed 0 0)

-- the runs of a layout
abbrev pub runs_of : ℕ → Spans → List Run
runs_of from c =
    bold_run (Head from c.head)
    ∷ bare_run (Fixed 0 1)
    ∷ bold_run (Fixed 1 5)
    ∷ bare_run (Fixed 5 6)
    ∷ red_run (Fixed 6 12)
    ∷ bare_run (Fixed 12 15)
    ∷ green_run (Fixed 15 22)
    ∷ bare_run (Fixed 22 23)
    ∷ red_run (Fixed 23 24)
    ∷ red_run (Part c.left.from c.left.begun)
    ∷ bold_red_run (Part c.left.begun c.left.rest)
    ∷ red_run (Part c.left.rest c.left.to)
    ∷ bare_run (Fixed 24 25)
    ∷ green_run (Fixed 25 26)
    ∷ green_run (Part c.right.from c.right.begun)
    ∷ bold_green_run (Part c.right.begun c.right.rest)
    ∷ green_run (Part c.right.rest c.right.to)
    ∷ []

-- a run without width, whose text and prefix stand where it says
pub record RunFits (d : List ℕ) (r : Run) : Type 0 where
  pub width : r.format.width ≡ 0
  pub within : TextWithin (length d) r.text
  pub place : (r.from ≤ r.to) × (r.to ≤ 28)
  pub prefix_is : part r.from r.to prefixes ≡ prefix r.format.look

-- an empty part is left out
unfoldable pub is_left_out : Text → Bool
is_left_out (Part i j) = eqb i j
is_left_out (Fixed i j) = false
is_left_out (Head i j) = false

-- what a run shows
unfoldable pub run_text : Settings → List ℕ → Run → List ℕ
run_text s d r = elim (is_left_out r.text) [ true ↦ [] | false ↦ formatted s r.format (text_bytes r.text d) ]

-- what runs show, one after the other
unfoldable pub runs_text : Settings → List ℕ → List Run → List ℕ
runs_text s d [] = []
runs_text s d (r ∷ rest) = run_text s d r ++ runs_text s d rest

-- the layout of the message that begins at `from`, by the places c
abbrev pub laid_text : Settings → List ℕ → ℕ → Spans → List ℕ
laid_text s d from c = joined s (placed (head_text from c.head d) d c)
