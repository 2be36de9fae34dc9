-- Scaffolding, for proofs alone: the texts of a layout, and the bytes that they stand for. Assumes nothing.
use Rattle.std.specs.Prelude.{ℕ, ◌≤◌, List}
use Rattle.buffer.specs.Bytes.{bytes, part}
use Rattle.comparisons.specs.Places.{head_text}
use Rattle.layouts.specs.declared.text.Text.{Text}

-- what every layout has, one after the other
abbrev pub fixed : List ℕ
fixed = bytes "\ndiff < left / right >\n<\n>"

-- the bytes, where the record's bytes are d
unfoldable pub text_bytes : Text → List ℕ → List ℕ
text_bytes (Text.Head i j) d = head_text i j d
text_bytes (Text.Part i j) d = part i j d
text_bytes (Text.Fixed i j) d = part i j fixed

-- places within n bytes, or within what every layout has
abbrev pub TextWithin : ℕ → Text → Type 0
TextWithin n (Text.Head i j) = (i ≤ j) × (j ≤ n)
TextWithin n (Text.Part i j) = (i ≤ j) × (j ≤ n)
TextWithin n (Text.Fixed i j) = (i ≤ j) × (j ≤ 26)
