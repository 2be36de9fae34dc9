-- Lists of words. Assumes nothing.
use Prim.Native.Nat.{ℕ, ◌≤◌}
use native.Mathlib.Nat.{le_trans}
use mathlib.Core.Path.{◌≡◌, sym, ap, subst}
use mathlib.Core.List.{List}
use Rattle.words.specs.declared.LogMetadata.{LogMetadata}
use Rattle.words.specs.declared.Parameter.{Parameter}
use Rattle.words.specs.Trying.{listed}
use Rattle.words.specs.Within.{Wide}
use Rattle.segments.specs.Sizes.{Narrow}
use Rattle.parts.proofs.Narrowing.{narrow_specifier, narrow_parameter}
use Rattle.parts.specs.declared.Parts.{Parts}
use Rattle.parts.specs.Parts.{no_parts, with_specifier, with_parameter}
use Rattle.words.proofs.Answers.{fitting_on}
use Rattle.building.specs.Reading.{word_at}
use Rattle.building.specs.Told.{Read, PartsWithin}

pub from_none : (s : ℕ) (t : List ℕ) (i e : ℕ) (p : Parts) → p ≡ no_parts → listed s t e (word_at t e) i p ≡ listed s t e (word_at t e) i no_parts
from_none s t i e p q = ap (λ (z : Parts). listed s t e (word_at t e) i z) q

pub words_wider : (lo lo' to : ℕ) (o : Read Parts) → lo' ≤ lo → PartsWithin lo to o → PartsWithin lo' to o
words_wider lo lo' to o h w = fitting_on _ _ o (λ j p g. (le_trans h g.0, g.1)) w

pub narrow_none : (p : Parts) → p ≡ no_parts → Narrow p.format.width
narrow_none p q = subst (λ (z : Parts). Narrow z.format.width) (sym q) tt

pub named_narrow : (p : Parts) (m : LogMetadata) (s : Parts) → s ≡ with_specifier p m → Narrow p.format.width → Narrow s.format.width
named_narrow p m s q h = subst (λ (z : Parts). Narrow z.format.width) (sym q) (narrow_specifier p m h)

pub asked_narrow : (p : Parts) (a : Parameter) (s : Parts) → s ≡ with_parameter p a → Narrow p.format.width → Wide a → Narrow s.format.width
asked_narrow p a s q h w = subst (λ (z : Parts). Narrow z.format.width) (sym q) (narrow_parameter p a h w)
