-- One text, formatted (document 01, "Building a line"; in the crate: `build_formatted_string`). Assumes nothing.
use Rattle.std.specs.Prelude.{ℕ, ◌-◌, ◌/◌, Bool, true, false, List, [], ◌∷◌, ◌++◌, length, replicate}
use Rattle.buffer.specs.Bytes.{byte}
use Rattle.widths.specs.Widths.{count}
use Rattle.words.specs.declared.Alignment.{Alignment}
use Rattle.words.specs.declared.Alignment.TheVariants.{Left, Center, Right}
use Rattle.words.specs.declared.Padding.{Padding}
use Rattle.words.specs.declared.Padding.TheVariants.{Space, Zero}
use Rattle.colour.specs.declared.Settings.{Settings}
use Rattle.colour.specs.declared.Look.{Look}
use Rattle.colour.specs.declared.Format.{Format}
use Rattle.colour.specs.Sequences.{reset, visible, reinserted}
use Rattle.colour.specs.Looks.{prefix}

-- "Padding due is width minus visible characters, or 0"; in the places rule "visible characters read as places"
unfoldable pub due : Settings → Format → List ℕ → ℕ
due s f t = f.width - count s.rule (visible t)

-- "With colour on and a colour or style that applies: prefix"
unfoldable pub prefix_in : Bool → Look → List ℕ
prefix_in true k = prefix k
prefix_in false k = []

-- the bytes that are inserted after the resets in a text
unfoldable pub inserted : List ℕ → List ℕ → ℕ
inserted p t = length (reinserted p t) - length t

-- "The crate's mode counts inserted bytes against the padding; straight mode doesn't"
unfoldable pub counted : Bool → ℕ → ℕ → ℕ
counted true d n = d
counted false d n = d - n

-- the padding that is written
unfoldable pub padded : Settings → Format → List ℕ → ℕ
padded s f t = counted s.straight (due s f t) (inserted (prefix_in s.colour f.look) t)

-- "Left alignment is the default; centre puts half before, rounded down": how much of n stands before the text
unfoldable pub before : Alignment → ℕ → ℕ
before Left n = 0
before Center n = n / 2
before Right n = n

-- "Padding is a space, or `0` on either side"
unfoldable pub pad_byte : Padding → ℕ
pad_byte Space = byte " "
pad_byte Zero = byte "0"

-- "the whole ends with the reset", where there is a prefix
unfoldable pub ending : List ℕ → List ℕ
ending [] = []
ending (b ∷ p) = reset

-- "prefix, then padding and text, and the whole ends with the reset": n bytes of padding
unfoldable pub framed : List ℕ → Format → ℕ → List ℕ → List ℕ
framed p f n t =
    p ++ (replicate (before f.alignment n) (pad_byte f.padding)
    ++ (reinserted p t
    ++ (replicate (n - before f.alignment n) (pad_byte f.padding)
    ++ ending p)))

-- a text in its format
unfoldable pub formatted : Settings → Format → List ℕ → List ℕ
formatted s f t = framed (prefix_in s.colour f.look) f (padded s f t) t
