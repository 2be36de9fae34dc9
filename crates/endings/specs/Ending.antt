-- Scaffolding, for proofs alone: where what is tried at a place ends, if it fits. Assumes nothing.
use Rattle.std.specs.Prelude.{ℕ, ◌≤◌, Bool, true, false, List, Option, Some, None}
use Rattle.words.specs.Trying.{Tried, fit, misfit, refused, ◌then◌}
use Rattle.words.specs.Words.{specifier_at}
use Rattle.words.specs.declared.LogMetadata.{LogMetadata}
use Rattle.parts.specs.declared.Parts.{Parts}
use Rattle.parts.specs.Parts.{segment_of}
use Rattle.building.specs.Reading.{make_or, text_at, inner_at, percent_at}

-- where what is tried ends, if it fits
abbrev pub Ends : Type 0
Ends = Option ℕ

-- a template that is refused there ends nowhere, too
abbrev pub end_of : {A : Type 0} → Tried A → Ends
end_of (fit a j) = Some j
end_of misfit = None
end_of (refused r) = None

-- words end at j if they name a specifier
abbrev pub named_end : Option LogMetadata → ℕ → Ends
named_end None j = None
named_end (Some m) j = Some j

-- where words end that make a segment
abbrev pub made_end : Tried Parts → Ends
made_end x = end_of (x then λ p j. make_or misfit 0 j (segment_of p))

abbrev pub or_end : Ends → Ends → Ends
or_end (Some j) y = Some j
or_end None y = y

-- what comes before the parameters in an item: at even depth an inner list that makes a segment, at odd depth a specifier
abbrev pub word_end : Bool → List ℕ → ℕ → ℕ → Ends
word_end true t i e = end_of (inner_at t i e 0)
word_end false t i e = end_of (specifier_at t i e)

-- a piece of a group that is no brace
abbrev pub plain_end : List ℕ → ℕ → ℕ → Ends
plain_end t i e = or_end (end_of (text_at t i e 0)) (end_of (percent_at t i e))

abbrev pub EndsWithin : ℕ → ℕ → Ends → Type 0
EndsWithin lo to (Some j) = (lo ≤ j) × (j ≤ to)
EndsWithin lo to None = Unit {0}
