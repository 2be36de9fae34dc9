-- The text of `{t}`, by the places of a record: a device's timestamp that has a byte. Assumes nothing.
use mathlib.Core.Path.{◌≡◌, ap, sym, ◌∙◌}
use mathlib.Core.List.{List, ◌∷◌}
use Prim.Native.Nat.{ℕ, ◌<◌, ◌≤◌}
use lib.ListN.{length}
use Rattle.buffer.specs.Bytes.{part}
use Rattle.buffer.specs.Table.{some}
use Rattle.buffer.proofs.Parts.{part_step}
use Rattle.words.specs.declared.LogMetadata.TheVariants.{Timestamp}
use Rattle.record.specs.declared.Places.{Places}
use Rattle.record.specs.declared.Source.{Source}
use Rattle.record.specs.Placed.{laid_by}
use Rattle.record.specs.Contents.{source_of, record_of}
use Rattle.fields.specs.declared.Wording.{Wording}
use Rattle.fields.specs.Texts.{no_time, or_placeholder, not_empty, time_of, wording}
use Rattle.fields.specs.Wordings.{bytes_of}

not_empty_lem : (s : List ℕ) (b : ℕ) (t : List ℕ) → s ≡ b ∷ t → not_empty s ≡ some s
unfolding not_empty
not_empty_lem s b t e = ap not_empty e ∙ ap some (sym e)

module _ (p : Places) (d : List ℕ) (e : source_of p.source ≡ Source.Defmt) where
  time_of_lem : or_placeholder no_time (not_empty (part p.timestamp_from p.timestamp_to d)) ≡ wording (record_of (laid_by p d)) Timestamp
  unfolding wording record_of laid_by time_of
  time_of_lem = ap (λ (s : Source). or_placeholder no_time (time_of s (part p.timestamp_from p.timestamp_to d))) (sym e)

  pub time_there : p.timestamp_from < p.timestamp_to → p.timestamp_to ≤ length d
      → bytes_of (Wording.Part p.timestamp_from p.timestamp_to) d ≡ wording (record_of (laid_by p d)) Timestamp
  unfolding bytes_of or_placeholder
  time_there h g =
      ap (or_placeholder no_time) (sym (not_empty_lem _ _ _ (part_step d p.timestamp_from p.timestamp_to h g))) ∙ time_of_lem
