-- `is_specifier_at` meets its contract. Assumes nothing.
use Prim.Native.Nat.{ℕ}
use mathlib.Core.Path.{◌≡◌, refl, sym, ap, ◌∙◌}
use mathlib.Core.Bool.{false}
use mathlib.Core.List.{List}
use Rattle.words.specs.declared.LogMetadata.{LogMetadata}
use Rattle.segments.specs.declared.Cell.{Cell}
use Rattle.segments.specs.declared.Kind.{Kind}
use Rattle.segments.specs.Segments.{is_specifier}
use Rattle.segments.specs.Pool.{kind_at, segment_at}
use Rattle.segments.proofs.Chains.{segment_text_lem, segment_group, segment_specifier}
use Rattle.reader.proofs.is_specifier_at.Goals as goal

other_kind : (cells : List Cell) (i : ℕ) (k : Kind) → k ≡ kind_at cells i → ((m : LogMetadata) → k ≡ Kind.Specifier m → ⊥) → false ≡ is_specifier (segment_at cells i)
other_kind cells i (Kind.Text from to) q h = sym (ap is_specifier (segment_text_lem cells i (sym q)))
other_kind cells i (Kind.Group last) q h = sym (ap is_specifier (segment_group cells i (sym q)))
other_kind cells i (Kind.Specifier m) q h = absurd (h m refl)

pub returns-in-Specifier : goal.returns-in-Specifier
returns-in-Specifier c = sym (ap is_specifier (segment_specifier _ _ _ (sym c.kind_at.ensures ∙ c.in-Specifier.is)))

pub returns-in_default : goal.returns-in_default
returns-in_default c = other_kind _ _ _ c.kind_at.ensures c.in_default.not-Specifier
