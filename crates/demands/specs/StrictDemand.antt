-- Document 02, E5: strict templates. Assumes nothing.
use Rattle.std.specs.Prelude.{ℕ, ◌≡◌, List, [], ◌↔◌, ◌≢◌, length}
use Rattle.letters.specs.Marked.{marked}
use Rattle.refusals.specs.declared.Refusal.{Refusal}
use Rattle.segments.specs.Segments.{LogSegments}
use Rattle.unused.specs.Unused.{AllLieIn, unnoted, reading_noted, unused_in}
use Rattle.template.specs.declared.Edition.{Edition}
use Rattle.template.specs.Template.{read, refusal, reading, read_template, read_by}
use Rattle.demands.specs.Conditions.{OneAt, NoneBefore}

-- the two editions of the template rules, on any template
pub record StrictDemand (t : List ℕ) : Type 0 where
  -- "It reads exactly the templates that the first edition reads with every byte used and every parameter still in force, and gives the same segments"
  pub exactly : (s : LogSegments) → (read_by Edition.Strict t ≡ read s) ↔ ((read_template t ≡ read s) × (unused_in (marked t) ≡ []))
  -- "The first edition stays for old projects": it is what it was, and gives no 17
  pub first : read_by Edition.First t ≡ read_template t
  pub first_never : (p : ℕ) → read_template t ≢ refusal (Refusal.Dropped p)
  -- "checked after 3 to 10": what the first edition refuses, the strict one refuses alike
  pub alike : (r : Refusal) → read_template t ≡ refusal r → read_by Edition.Strict t ≡ refusal r
  -- "17, bytes dropped or a parameter lost, with the place (from 0) of the first dropped byte or, if it comes earlier, of the lost parameter": the least of all
  pub placed : (p : ℕ) → (read_by Edition.Strict t ≡ refusal (Refusal.Dropped p))
      ↔ (((s : LogSegments) × (read_template t ≡ read s)) × (OneAt p (unused_in (marked t)) × NoneBefore p (unused_in (marked t))))
  -- what is noted is noted of the first edition's own reading, and lies in the template
  pub of_the_reading : unnoted (reading_noted (marked t)) ≡ reading (marked t)
  pub in_the_template : AllLieIn (length t) (unused_in (marked t))
