-- How long a line is at most, so that its length can be packed beside a refusal's number. Assumes nothing.
use Prim.Native.Nat.{ℕ, ◌≤◌, ◌<◌, ◌^◌}
use mathlib.Core.Path.{◌≡◌, refl, ap}
use mathlib.Core.List.{List}
use native.Mathlib.Omega.{arith}
use lib.ListN.{length}
use Rattle.colour.specs.declared.Settings.{Settings}
use Rattle.segments.specs.Segments.{LogSegments}
use Rattle.record.specs.declared.Places.{Places}
use Rattle.record.specs.Layout.{Laid}
use Rattle.record.specs.Placed.{laid_by}
use Rattle.leaves.specs.Places.{Short}
use Rattle.record.specs.declared.Level.{Level}
use Rattle.record.specs.Levels.{level_of}
use Rattle.record.specs.Contents.{record_of}
use Rattle.fields.specs.Lines.{line_of}
use Rattle.rows.specs.Texts.{segments_text}
use Rattle.line.proofs.Bound.{segments_counted}
use Rattle.leaves.proofs.Wordings.{wording_short, field_short}
use Rattle.answer.specs.Maker.{Maker, IsRead}
use Rattle.answer.specs.Rooms.{segments_of, line_by, Accepted}
use Rattle.answer.proofs.Messages.{print_small}
use Rattle.answer.proofs.Answering.{line_print, line_refused, line_level}

short : (l : Laid) → Short l → length (record_of l).message ≤ 4096
unfolding record_of
short l e = e.message

by_level : (s : Settings) (t : List ℕ) (c : LogSegments) (l : Laid) → Short l → length (segments_text s t (record_of l) c) < 2 ^ 56
    → (x : Level) → x ≡ level_of l.level → length (line_of s t c (record_of l)) < 2 ^ 56
by_level s t c l e h Level.Print z = omega (arith, ap length (line_print s t c l Level.Print z refl), print_small s (record_of l) (short l e))
by_level s t c l e h (Level.Named n k) z = omega (arith, ap length (line_level s t c l (Level.Named n k) z n k refl), h)
by_level s t c l e h Level.Refused z = omega (arith, ap length (line_refused s t c l Level.Refused z refl), print_small s (record_of l) (short l e))

-- the line of a record that passed its checks
pub line_counted : (r : Maker) (d : List ℕ) (p : Places) → IsRead r.template r.cells r.count → Accepted d p → length (line_by r (laid_by p d)) < 2 ^ 56
line_counted r d p i h =
    let l = laid_by p d in
    by_level r.settings r.template (segments_of r) l h.texts
    (segments_counted r.settings r.template (record_of l) i.template (λ m. omega (arith, wording_short l h.texts m)) (λ m. field_short r.settings l h.texts m) (segments_of r) i.read.low (omega (arith, i.read.counted, i.read.few)))
    (level_of l.level) refl
