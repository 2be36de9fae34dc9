-- Scaffolding, for proofs alone: what the code's answers about words say, where what fits ends, and the bounds of the numbers in it. Assumes nothing.
use Rattle.std.specs.Prelude.{ℕ, ◌+◌, ◌≤◌, Option, Some, None, Result, Ok, Err}
use Rattle.refusals.specs.declared.Refusal.{Refusal}
use Rattle.words.specs.declared.LogMetadata.{LogMetadata}
use Rattle.words.specs.declared.LogMetadata.TheVariants.{CrateName, FileName, FilePath, LineNumber, Log, LogLevel, ModulePath, Timestamp, HeadSerial}
use Rattle.words.specs.declared.Parameter.{Parameter}
use Rattle.buffer.specs.Table.{Maybe, none, some}
use Rattle.words.specs.Words.{Sense, sense}
use Rattle.words.specs.Trying.{Tried, fit, misfit, refused}

-- what an answer of the code says, as an attempt that gives f of what was found
unfoldable pub told : {A B : Type 0} → (A → B) → Result (Option (ℕ × A)) Refusal → Tried B
told f (Ok (Some p)) = fit (f p.1) p.0
told f (Ok None) = misfit
told f (Err r) = refused r

abbrev pub told_read : {A : Type 0} → Result (Option (ℕ × A)) Refusal → Tried A
told_read = told (λ a. a)

-- what an answer about a word says, as what a table says of it: f of what was found
unfoldable pub found : {A B : Type 0} → (A → B) → Option A → Maybe B
found f (Some a) = some (f a)
found f None = none

abbrev pub found_sense : {A : Type 0} → Option A → Sense A
found_sense o = sense (found (λ a. a) o)

-- what fits is so
unfoldable pub Fitting : {A : Type 0} → (ℕ → A → Type 0) → Result (Option (ℕ × A)) Refusal → Type 0
Fitting so (Ok (Some p)) = so p.0 p.1
Fitting so (Ok None) = Unit {0}
Fitting so (Err r) = Unit {0}

-- the number of `f` of a file name is from 1 to 255
abbrev pub Named : LogMetadata → Type 0
Named CrateName = Unit {0}
Named (FileName n) = (1 ≤ n) × (n ≤ 255)
Named FilePath = Unit {0}
Named LineNumber = Unit {0}
Named Log = Unit {0}
Named LogLevel = Unit {0}
Named ModulePath = Unit {0}
Named Timestamp = Unit {0}
Named HeadSerial = Unit {0}

-- a width is 512 at most
abbrev pub Wide : Parameter → Type 0
Wide (Parameter.Color c) = Unit {0}
Wide (Parameter.Style s) = Unit {0}
Wide (Parameter.WidthAndAlignment n z a) = n ≤ 512

-- what fits is a byte long at least and ends by `to`
abbrev pub MetadataWithin : ℕ → ℕ → Result (Option (ℕ × LogMetadata)) Refusal → Type 0
MetadataWithin from to = Fitting (λ j m. (from + 1 ≤ j) × (j ≤ to) × Named m)

abbrev pub FormatWithin : ℕ → ℕ → Result (Option (ℕ × Parameter)) Refusal → Type 0
FormatWithin from to = Fitting (λ j p. (from + 1 ≤ j) × (j ≤ to) × Wide p)
