-- Names and numbers of a template (document 01, "Reading a template"): specifiers and parameters. Assumes nothing.
use Rattle.std.specs.Prelude.{ℕ, zero, suc, ◌+◌, true, false, List, [], ◌∷◌, eqb, leb, ltb, length, get_or, replicate}
use Rattle.buffer.specs.Bytes.{byte, part, same}
use Rattle.buffer.specs.Table.{Maybe, none, some, Entry, ◌means◌, lookup}
use Rattle.refusals.specs.declared.Refusal.{Refusal}
use Rattle.words.specs.declared.LogMetadata.{LogMetadata}
use Rattle.words.specs.declared.LogMetadata.TheVariants.{CrateName, FileName, FilePath, LineNumber, Log, LogLevel, ModulePath, Timestamp, HeadSerial}
use Rattle.words.specs.declared.Color.{Color}
use Rattle.words.specs.declared.Color.TheVariants.{Black, Red, Green, Yellow, Blue, Magenta, Cyan, White}
use Rattle.words.specs.declared.LogColor.{LogColor}
use Rattle.words.specs.declared.Style.TheVariants.{Bold, Italic, Underline, Strike, Dimmed}
use Rattle.words.specs.declared.Alignment.{Alignment}
use Rattle.words.specs.declared.Alignment.TheVariants.{Left, Center, Right}
use Rattle.words.specs.declared.Padding.{Padding}
use Rattle.words.specs.declared.Padding.TheVariants.{Space, Zero}
use Rattle.words.specs.declared.Parameter.{Parameter}
use Rattle.words.specs.Trying.{Tried, fit, misfit, refused, ◌or_else◌}
use Rattle.runs.specs.Runs.{lowered, decimal, letters_end, digits_end}

-- ---- what a word stands for

-- a word stands for something, for nothing, or has the template refused
pub data Sense (A : Type 0) : Type 0 where
  stands_for : A → Sense A
  nothing : Sense A
  not_allowed : Refusal → Sense A

-- what a table says of a word
unfoldable pub sense : {A : Type 0} → Maybe A → Sense A
sense none = nothing
sense (some a) = stands_for a

-- "Specifiers: `c F l s L m t`, or `f` repeated"; and, of document 02, E7: "the head's serial .. shown by `{d}`"
abbrev pub specifiers : List (Entry LogMetadata)
specifiers =
    "c" means CrateName
    ∷ "F" means FilePath
    ∷ "l" means LineNumber
    ∷ "s" means Log
    ∷ "L" means LogLevel
    ∷ "m" means ModulePath
    ∷ "t" means Timestamp
    ∷ "d" means HeadSerial
    ∷ []

-- `f` repeated; refusal 8: "a specifier name of more than 255 `f`"
unfoldable pub count_of_f : ℕ → Sense LogMetadata
count_of_f zero = nothing
count_of_f (suc n) = elim (leb (suc n) 255) [ true ↦ stands_for (FileName (suc n)) | false ↦ not_allowed Refusal.TooManyF ]

-- "`f` repeated": a word of nothing but `f`
unfoldable pub repeated_f : List ℕ → Sense LogMetadata
repeated_f w = elim (same (replicate (length w) (byte "f")) w) [ true ↦ count_of_f (length w) | false ↦ nothing ]

-- a word that the table of specifiers has, else `f` repeated
unfoldable pub or_repeated_f : List ℕ → Maybe LogMetadata → Sense LogMetadata
or_repeated_f w none = repeated_f w
or_repeated_f w (some m) = stands_for m

-- the specifier that a word names
unfoldable pub specifier_of : List ℕ → Sense LogMetadata
specifier_of w = or_repeated_f w (lookup specifiers w)

-- "Parameters: `severity`, `werror`": in exact case
abbrev pub level_colours : List (Entry Parameter)
level_colours =
    "severity" means Parameter.Color LogColor.SeverityLevel
    ∷ "werror" means Parameter.Color LogColor.WarnError
    ∷ []

-- a colour word's parameter
abbrev pub colour : Color → Parameter
colour c = Parameter.Color (LogColor.Color c)

-- "Colour words: black red green yellow blue magenta purple (the same as magenta) cyan white, in any ASCII case"
abbrev pub colours : List (Entry Parameter)
colours =
    "black" means colour Black
    ∷ "red" means colour Red
    ∷ "green" means colour Green
    ∷ "yellow" means colour Yellow
    ∷ "blue" means colour Blue
    ∷ "magenta" means colour Magenta
    ∷ "purple" means colour Magenta
    ∷ "cyan" means colour Cyan
    ∷ "white" means colour White
    ∷ []

-- "Style words, exact case: bold italic underline strike dimmed"
abbrev pub styles : List (Entry Parameter)
styles =
    "bold" means Parameter.Style Bold
    ∷ "italic" means Parameter.Style Italic
    ∷ "underline" means Parameter.Style Underline
    ∷ "strike" means Parameter.Style Strike
    ∷ "dimmed" means Parameter.Style Dimmed
    ∷ []

-- the first of two that is there
unfoldable pub either : {A : Type 0} → Maybe A → Maybe A → Maybe A
either none y = y
either (some a) y = some a

-- the parameter that a word names: a colour of levels, a colour, a style
unfoldable pub parameter_of : List ℕ → Sense Parameter
parameter_of w = sense (either (lookup level_colours w) (either (lookup colours (lowered w)) (lookup styles w)))

-- ---- words at a place

-- a word that ends at j, tried
unfoldable pub sensed : {A : Type 0} → ℕ → Sense A → Tried A
sensed j (stands_for a) = fit a j
sensed j nothing = misfit
sensed j (not_allowed r) = refused r

-- "Names are whole letter runs": the run from i up to j, tried as a name
unfoldable pub name_to : {A : Type 0} → (List ℕ → Sense A) → List ℕ → ℕ → ℕ → Tried A
name_to senseOf t i j = sensed j (senseOf (part i j t))

-- the whole letter run at i, tried as a name
unfoldable pub name : {A : Type 0} → (List ℕ → Sense A) → List ℕ → ℕ → ℕ → Tried A
name senseOf t i e = name_to senseOf t i (letters_end t i e)

-- a specifier tried at i
unfoldable pub specifier_at : List ℕ → ℕ → ℕ → Tried LogMetadata
specifier_at t i e = name specifier_of t i e

-- "Digits starting with 0 mean zero padding"
unfoldable pub padding_of : List ℕ → Padding
padding_of [] = Space
padding_of (b ∷ w) = elim (eqb b (byte "0")) [ true ↦ Zero | false ↦ Space ]

-- refusal 7: "a width above 512 is read, however many digits"
unfoldable pub width_of : Alignment → List ℕ → ℕ → Tried Parameter
width_of a w j =
    elim (leb (decimal 0 w) 512) [
      | true ↦ fit (Parameter.WidthAndAlignment (decimal 0 w) (padding_of w) a) j
      | false ↦ refused Refusal.TooWide
    ]

-- the digits from i up to j, of which there must be one
unfoldable pub digits_to : Alignment → List ℕ → ℕ → ℕ → Tried Parameter
digits_to a t i j = elim (ltb i j) [ true ↦ width_of a (part i j t) j | false ↦ misfit ]

-- "an optional `<`, `^`, `>` with digits"
abbrev pub alignments : List (Entry Alignment)
alignments =
    "<" means Left
    ∷ "^" means Center
    ∷ ">" means Right
    ∷ []

-- "Left alignment is the default"
unfoldable pub aligned : List ℕ → ℕ → ℕ → Maybe Alignment → Tried Parameter
aligned t i e none = digits_to Left t i (digits_end t i e)
aligned t i e (some a) = digits_to a t (i + 1) (digits_end t (i + 1) e)

-- the byte at i, if it is before e
unfoldable pub byte_at : List ℕ → ℕ → ℕ → List ℕ
byte_at t i e = elim (ltb i e) [ true ↦ get_or t i 0 ∷ [] | false ↦ [] ]

-- a width tried at i
unfoldable pub width_at : List ℕ → ℕ → ℕ → Tried Parameter
width_at t i e = aligned t i e (lookup alignments (byte_at t i e))

-- a parameter tried at i: a colour, a style, a width
unfoldable pub parameter_at : List ℕ → ℕ → ℕ → Tried Parameter
parameter_at t i e = name parameter_of t i e or_else λ _. width_at t i e
