-- Scaffolding, for proofs alone: what a wording promises of the record that places describe. Assumes nothing.
use Rattle.std.specs.Prelude.{◌≡◌, Option, Some, None, List, ℕ, ◌+◌, ◌<◌, length, get_or}
use Rattle.buffer.specs.Bytes.{byte}
use Rattle.words.specs.declared.LogMetadata.{LogMetadata}
use Rattle.record.specs.declared.Places.{Places}
use Rattle.record.specs.Placed.{laid_by, PlacesWithin}
use Rattle.record.specs.Contents.{record_of}
use Rattle.comparisons.specs.declared.Spans.{Spans}
use Rattle.comparisons.specs.Places.{layout_by, layout_for, SpansWithin}
use Rattle.fields.specs.declared.Wording.{Wording}
use Rattle.fields.specs.Texts.{wording}
use Rattle.fields.specs.Lines.{comparison_of}
use Rattle.fields.specs.Wordings.{Tells}

-- the wording w of the specifier m, where the record's bytes are d
abbrev pub Worded : Places → LogMetadata → Wording → List ℕ → Type 0
Worded p m w d = Tells w d (wording (record_of (laid_by p d)) m)

-- the same in any bytes that the places lie in
abbrev pub WordedAnywhere : Places → LogMetadata → Wording → Type 0
WordedAnywhere p m w = (d : List ℕ) → PlacesWithin (length d) p → Worded p m w d

-- the places c of the comparison that the message of the record with the places p is
pub record Compares (d : List ℕ) (p : Places) (c : Option Spans) : Type 0 where
  pub laid : layout_by d p.message_from c ≡ layout_for (comparison_of (record_of (laid_by p d)))
  pub within : SpansWithin p.message_from p.message_to c

-- `::` stands at place n of the text t
abbrev pub ColonsAt : List ℕ → ℕ → Type 0
ColonsAt t n = (n + 1 < length t) × (get_or t n 0 ≡ byte ":") × (get_or t (n + 1) 0 ≡ byte ":")

-- the first place where it stands, if there is one
abbrev pub FirstColons : List ℕ → Option ℕ → Type 0
FirstColons t None = (k : ℕ) → ColonsAt t k → ⊥
FirstColons t (Some n) = ColonsAt t n × ((k : ℕ) → k < n → ColonsAt t k → ⊥)
