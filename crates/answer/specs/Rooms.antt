-- Scaffolding, for proofs alone: what a line is made from: a template that was read and a record, as the code has them. Assumes nothing.
use Rattle.std.specs.Prelude.{ℕ, true, false, List, length}
use Rattle.refusals.specs.declared.Refusal.{Refusal}
use Rattle.segments.specs.Segments.{LogSegments}
use Rattle.segments.specs.Pool.{chain_at}
use Rattle.fields.specs.Lines.{line_of}
use Rattle.record.specs.declared.Places.{Places}
use Rattle.record.specs.Layout.{Laid, right_size, laid_out}
use Rattle.record.specs.Placed.{laid_by, PlacesWithin}
use Rattle.record.specs.Contents.{record_of}
use Rattle.leaves.specs.Places.{Short}
use Rattle.answer.specs.Maker.{Maker}
use Rattle.answer.specs.Answers.{Outcome, refused, record_outcome}

-- the segments that the template was read as: the first in the pool
abbrev pub segments_of : Maker → LogSegments
segments_of r = chain_at r.cells r.count

-- the line of the record l
abbrev pub line_by : Maker → Laid → List ℕ
line_by r l = line_of r.settings r.template (segments_of r) (record_of l)

-- the record with the bytes d, with so much room; "a record of the wrong size is 15"
unfoldable pub outcome_by : Maker → List ℕ → ℕ → Outcome
outcome_by r d room =
    elim (right_size r.form d) [
      | true ↦ record_outcome r.form r.settings r.template (segments_of r) (laid_out r.form d) room
      | false ↦ refused Refusal.NotASheet
    ]

-- the places of a record that passed its checks, whatever its form: no text of it is too long
pub record Accepted (d : List ℕ) (p : Places) : Type 0 where
  pub places : PlacesWithin (length d) p
  pub texts : Short (laid_by p d)
