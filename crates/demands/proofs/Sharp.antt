-- Demand 3 says no more than is so: without its premise, or of the crate's mode, its equations are false, of whatever is shown and of line
-- calls. Assumes nothing.
use Prim.Native.Nat.{ℕ, ◌/◌, ◌%◌}
use mathlib.Core.Path.{◌≡◌, refl, ap}
use mathlib.Core.List.{List, ◌∷◌, ◌++◌}
use native.Mathlib.Omega.{arith}
use lib.ListN.{length, take, replicate}
use Rattle.buffer.specs.Bytes.{bytes}
use Rattle.buffer.specs.Computing as buffer
use Rattle.utf8.specs.Computing as utf8
use Rattle.characters.specs.Computing as characters
use Rattle.points.specs.Computing as points
use Rattle.widths.specs.Computing as widths
use Rattle.runs.specs.Computing as runs
use Rattle.letters.specs.Computing as letters
use Rattle.words.specs.Computing as words
use Rattle.segments.specs.Computing as segments
use Rattle.parts.specs.Computing as parts
use Rattle.braces.specs.Computing as braces
use Rattle.building.specs.Computing as building
use Rattle.template.specs.Computing as template
use Rattle.colour.specs.Computing as colour
use Rattle.settings.specs.Computing as settings
use Rattle.record.specs.Computing as records
use Rattle.checks.specs.Computing as checks
use Rattle.formats.specs.Computing as formats
use Rattle.paths.specs.Computing as paths
use Rattle.comparisons.specs.Computing as comparisons
use Rattle.fields.specs.Computing as fields
use Rattle.answer.specs.Computing as answer
use Rattle.colour.specs.Sequences.{visible}
use Rattle.colour.specs.Shown.{text, Members, none, more, text_of, joined}
use Rattle.colour.specs.Texts.{Free, Quiets, Eachs}
use Rattle.colour.proofs.Shows.{free_by_test}
use Rattle.answer.specs.Answers.{line_entry, buffer_after, packed}
use Rattle.demands.specs.Demand3.{Fills}
use Rattle.demands.specs.CallDemand3.{Answered}
use Rattle.colour.specs.Modes.{plain, straight, coloured, off}
use Rattle.demands.specs.OneLine.{error_hello}

-- `same` does not hold of every line: a text may be a colour sequence
premise_needed : ((m : Members) → visible (joined (straight off) m) ≡ joined (plain off) m) → ⊥
unfolding utf8.computes characters.computes points.computes widths.computes runs.computes colour.computes
premise_needed h = let e : ◌≡◌ {A = ℕ} 0 4 = ap length (h (more (text (bytes "\u{1b}[1m")) none)) in omega arith

-- and so is the plain line not without byte 27
premise_needed_free : ((m : Members) → Free (joined (plain off) m)) → ⊥
unfolding text_of
premise_needed_free h = (h (more (text (bytes "\u{1b}[1m")) none)).0 refl

-- the crate's mode does not show the plain line, not even where no text holds byte 27
crate_not_same : ((m : Members) → Quiets m → visible (joined (coloured off) m) ≡ joined (plain off) m) → ⊥
unfolding utf8.computes characters.computes points.computes widths.computes runs.computes colour.computes
crate_not_same h = let e : ◌≡◌ {A = ℕ} 13 15 = ap length (h error_hello quiet) in omega arith
  where
    quiet : Quiets error_hello
    quiet = (
      (free_by_test (bytes "[") refl, (free_by_test (bytes "ERROR") refl, (free_by_test (bytes "]") refl, tt))),
      (free_by_test (bytes "|") refl, (free_by_test (bytes "hello") refl, tt)),
    )

-- nor does each group fill its extent there
crate_does_not_fill : ((m : Members) → Eachs (Fills (coloured off)) (coloured off) m) → ⊥
unfolding utf8.computes characters.computes points.computes widths.computes runs.computes colour.computes
crate_does_not_fill h = let e : ◌≡◌ {A = ℕ} 7 9 = (h error_hello).0.0 in omega arith

-- ---- the same of line calls

-- a buffer lent
abbrev lent : List ℕ
lent = replicate 100 0

-- a record of level ERROR or INFO with a message of so many bytes
abbrev message : ℕ → ℕ → List ℕ → List ℕ
message level n m = 0 ∷ level ∷ replicate 11 0 ++ (n ∷ 0 ∷ m)

-- what is visible of a call's line in the settings a is the line in the settings 0
abbrev SameSeen : ℕ → List ℕ → List ℕ → Type 0
SameSeen a t d = (left₁ left₂ : List ℕ) (answer₁ answer₂ : ℕ) → Answered t a d lent left₁ answer₁ → Answered t 0 d lent left₂ answer₂
    → visible (take (answer₁ / 256) left₁) ≡ take (answer₂ / 256) left₂

-- the lines of both calls, where both have one
seen : (a : ℕ) (t d : List ℕ) → SameSeen a t d → packed (line_entry t a d lent) % 256 ≡ 0 → packed (line_entry t 0 d lent) % 256 ≡ 0
    → visible (take (packed (line_entry t a d lent) / 256) (buffer_after lent (line_entry t a d lent)))
    ≡ take (packed (line_entry t 0 d lent) / 256) (buffer_after lent (line_entry t 0 d lent))
seen a t d h k l =
    h (buffer_after lent (line_entry t a d lent)) (buffer_after lent (line_entry t 0 d lent)) (packed (line_entry t a d lent)) (packed (line_entry t 0 d lent))
    (record { returned = refl; buffer = refl }, k)
    (record { returned = refl; buffer = refl }, l)

-- a message that is a colour sequence is not seen in straight mode
call_premise_needed : ((t d : List ℕ) → SameSeen 3 t d) → ⊥
unfolding buffer.computes utf8.computes characters.computes points.computes widths.computes runs.computes letters.computes words.computes
    segments.computes parts.computes braces.computes building.computes template.computes
    colour.computes settings.computes records.computes checks.computes formats.computes paths.computes comparisons.computes fields.computes answer.computes
call_premise_needed h =
    let t = bytes "{s}" in
    let d = message 3 4 (bytes "\u{1b}[1m") in
    let e : ◌≡◌ {A = ℕ} 0 4 = ap length (seen 3 t d (h t d) refl refl) in
    omega arith

-- in the crate's mode the padding of a group falls short
call_crate_not_same : ((t d : List ℕ) → SameSeen 1 t d) → ⊥
unfolding buffer.computes utf8.computes characters.computes points.computes widths.computes runs.computes letters.computes words.computes
    segments.computes parts.computes braces.computes building.computes template.computes
    colour.computes settings.computes records.computes checks.computes formats.computes paths.computes comparisons.computes fields.computes answer.computes
call_crate_not_same h =
    let t = bytes "{[{L}]%bold%<9}|{s}" in
    let d = message 1 5 (bytes "hello") in
    let e : ◌≡◌ {A = ℕ} 13 15 = ap length (seen 1 t d (h t d) refl refl) in
    omega arith
