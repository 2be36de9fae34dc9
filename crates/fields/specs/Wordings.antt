-- Scaffolding, for proofs alone: where a specifier's text comes from, and the bytes that each such place stands for. Assumes nothing.
use Rattle.std.specs.Prelude.{ℕ, ◌≤◌, ◌<◌, ◌^◌, ◌≡◌, List, [], length}
use Rattle.buffer.specs.Bytes.{part}
use Rattle.fields.specs.declared.Fixed.{Fixed}
use Rattle.fields.specs.declared.Wording.{Wording}
use Rattle.paths.specs.Paths.{file_name}
use Rattle.record.specs.Levels.{level_name}
use Rattle.fields.specs.Texts.{no_crate, no_file, no_module, no_time, no_head, or_placeholder, decimal_text}

-- placeholders and the names of levels
abbrev pub fixed_text : Fixed → List ℕ
fixed_text Fixed.Empty = []
fixed_text Fixed.Crate = no_crate
fixed_text Fixed.File = no_file
fixed_text Fixed.ModulePath = no_module
fixed_text Fixed.Time = no_time
fixed_text Fixed.Head = no_head
fixed_text (Fixed.Level n) = level_name n

-- the last n path components from place i up to place e, joined: "A present file with no component left gives `<file>`"
abbrev pub name_text : ℕ → ℕ → ℕ → List ℕ → List ℕ
name_text i e n d = or_placeholder no_file (file_name n (part i e d))

-- the bytes, where the record's bytes are d
unfoldable pub bytes_of : Wording → List ℕ → List ℕ
bytes_of (Wording.Part i j) d = part i j d
bytes_of (Wording.Fixed x) d = fixed_text x
bytes_of (Wording.Number n) d = decimal_text n
bytes_of (Wording.Components i j n) d = name_text i j n d

-- places within n bytes, and a number of 32 bits
abbrev pub WordingWithin : ℕ → Wording → Type 0
WordingWithin n (Wording.Part i j) = (i ≤ j) × (j ≤ n)
WordingWithin n (Wording.Fixed x) = Unit {0}
WordingWithin n (Wording.Number k) = k < 2 ^ 32
WordingWithin n (Wording.Components i j k) = (i ≤ j) × (j ≤ n)

-- the wording w says x where the record's bytes are d
abbrev pub Tells : Wording → List ℕ → List ℕ → Type 0
Tells w d x = (bytes_of w d ≡ x) × WordingWithin (length d) w
