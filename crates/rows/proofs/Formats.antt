-- Whether and how a segment of the pool is formatted, by its kind. Assumes nothing.
use Prim.Native.Nat.{ℕ}
use mathlib.Core.Path.{◌≡◌, refl, sym, ap, ◌∙◌}
use mathlib.Core.Bool.{Bool, true, false}
use mathlib.Core.List.{List}
use Rattle.words.specs.declared.LogMetadata.{LogMetadata}
use Rattle.words.specs.declared.LogFormat.{LogFormat}
use Rattle.colour.specs.declared.Format.{Format}
use Rattle.segments.specs.declared.Cell.{Cell}
use Rattle.segments.specs.declared.Kind.{Kind}
use Rattle.segments.specs.Pool.{kind_at, format_at, segment_at}
use Rattle.segments.proofs.Chains.{segment_text_lem, segment_group, segment_specifier}
use Rattle.record.specs.declared.Level.{Level}
use Rattle.formats.specs.Formats.{specifier_format, group_format}
use Rattle.rows.specs.Texts.{bare_from, is_bare, format_of}

module _ (cells : List Cell) (i : ℕ) (k : Kind) (ke : k ≡ kind_at cells i) where
  pub text_is_bare : (q : Bool) {from to : ℕ} → k ≡ Kind.Text from to → true ≡ is_bare q (segment_at cells i)
  unfolding is_bare
  text_is_bare q e = sym (ap (is_bare q) (segment_text_lem cells i (sym ke ∙ e)))

  pub group_is_not : (q : Bool) {last : ℕ} → k ≡ Kind.Group last → false ≡ is_bare q (segment_at cells i)
  unfolding is_bare
  group_is_not q e = sym (ap (is_bare q) (segment_group cells i (sym ke ∙ e)))

  pub specifier_is : (q : Bool) (m : LogMetadata) (b : Bool) → k ≡ Kind.Specifier m → b ≡ bare_from q m → b ≡ is_bare q (segment_at cells i)
  unfolding is_bare
  specifier_is q m b e be = be ∙ sym (ap (is_bare q) (segment_specifier cells i m (sym ke ∙ e)))

  text_format : (q : Bool) (l : Level) (g : Format) {from to : ℕ} → k ≡ Kind.Text from to → is_bare q (segment_at cells i) ≡ false → g ≡ format_of l (segment_at cells i)
  text_format q l g e b = let z : true ≡ false = text_is_bare q e ∙ b in cc

  group_format_lem : (l : Level) (f : LogFormat) (g : Format) {last : ℕ} → k ≡ Kind.Group last → f ≡ format_at cells i → g ≡ group_format l f → g ≡ format_of l (segment_at cells i)
  unfolding format_of
  group_format_lem l f g e fe ge =
      ge ∙ ap (group_format l) fe ∙ sym (ap (format_of l) (segment_group cells i (sym ke ∙ e)))

  pub specifier_format_lem : (l : Level) (m : LogMetadata) (f : LogFormat) (g : Format) → k ≡ Kind.Specifier m → f ≡ format_at cells i → g ≡ specifier_format l m f
      → g ≡ format_of l (segment_at cells i)
  unfolding format_of
  specifier_format_lem l m f g e fe ge =
      ge ∙ ap (specifier_format l m) fe ∙ sym (ap (format_of l) (segment_specifier cells i m (sym ke ∙ e)))

  -- whichever is no specifier
  pub other_format : (q : Bool) (l : Level) (f : LogFormat) (g : Format) → ((m : LogMetadata) → k ≡ Kind.Specifier m → ⊥) → is_bare q (segment_at cells i) ≡ false
      → f ≡ format_at cells i → g ≡ group_format l f → g ≡ format_of l (segment_at cells i)
  other_format q l f g n b fe ge = by k refl
    where
      by : (j : Kind) → k ≡ j → g ≡ format_of l (segment_at cells i)
      by (Kind.Text from to) e = text_format q l g e b
      by (Kind.Group last) e = group_format_lem l f g e fe ge
      by (Kind.Specifier m) e = absurd (n m e)
