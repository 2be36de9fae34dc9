-- How long a line is at most: each level of groups makes a text at most sixteen times as long, so that every length can be counted. Assumes nothing.
use Prim.Native.Nat.{ℕ, zero, suc, ◌+◌, ◌*◌, ◌-◌, ◌≤◌, ◌<◌, ◌^◌}
use Rattle.std.specs.Prelude.{Option, Some, None}
use mathlib.Core.Path.{◌≡◌, refl, sym, ap, ◌∙◌}
use mathlib.Core.Bool.{Bool, true, false}
use mathlib.Core.List.{List}
use native.Mathlib.Omega.{arith}
use native.Mathlib.Nat.{add-mul, one-mul, mul-le-mul_right, mul_assoc, mul_comm}
use lib.ListN.{length, drop, length-append, length-take, length-drop}
use Rattle.buffer.specs.Bytes.{part}
use Rattle.words.specs.declared.LogMetadata.{LogMetadata}
use Rattle.words.specs.declared.LogMetadata.TheVariants.{CrateName, FileName, FilePath, LineNumber, Log, LogLevel, ModulePath, Timestamp, HeadSerial}
use Rattle.words.specs.declared.LogFormat.{LogFormat}
use Rattle.colour.specs.declared.Settings.{Settings}
use Rattle.colour.specs.Shown.{text_of, joined}
use Rattle.colour.proofs.Lengths.{length_formatted_coarse}
use Rattle.segments.specs.declared.Cell.{Cell}
use Rattle.segments.specs.Segments.{LogSegment, LogSegments, text, specifier, group, none, more}
use Rattle.segments.specs.Sizes.{size, sizes, Narrow, Low, Lows}
use Rattle.segments.specs.Pool.{segment_at, chain_at}
use Rattle.record.specs.declared.Level.{Level}
use Rattle.record.specs.Records.{Record}
use Rattle.record.specs.Placed.{laid_by}
use Rattle.fields.specs.Texts.{wording}
use Rattle.formats.specs.Formats.{default_width, width_for, format_for, specifier_format, group_format}
use Rattle.fields.specs.Lines.{segment_shown, segments_shown}
use Rattle.leaves.specs.declared.Shown.{Shown}
use Rattle.leaves.specs.Places.{record_by}
use Rattle.rows.specs.Texts.{segment_text, segments_text, raw_text, bare_message, is_bare, format_of}
use Rattle.rows.specs.Rows.{Countable, Writable}
use Rattle.rows.proofs.Segments.{field_worded, segment_bare, segment_formatted}
use Rattle.leaves.specs.Fields.{field_text}
use Rattle.leaves.proofs.Wordings.{wording_short, field_short}

-- more than the longest text of a segment that holds no other, and sixteen times that for each level of groups
abbrev scale : ℕ → ℕ
scale zero = 2 ^ 18
scale (suc d) = 16 * scale d

scale_least : (d : ℕ) → 2 ^ 18 ≤ scale d
scale_least zero = omega arith
scale_least (suc d) = omega (arith, scale_least d)

width_narrow : (default : ℕ) (w : Option ℕ) → default ≤ 512 → Narrow w → width_for default w ≤ 512
width_narrow default None h g = h
width_narrow default (Some n) h g = g

default_narrow : (m : LogMetadata) → default_width m ≤ 512
default_narrow CrateName = omega arith
default_narrow (FileName n) = omega arith
default_narrow FilePath = omega arith
default_narrow LineNumber = omega arith
default_narrow Log = omega arith
default_narrow LogLevel = omega arith
default_narrow ModulePath = omega arith
default_narrow Timestamp = omega arith
default_narrow HeadSerial = omega arith

specifier_narrow : (l : Level) (m : LogMetadata) (f : LogFormat) → Narrow f.width → (specifier_format l m f).width ≤ 512
unfolding format_for
specifier_narrow l m f h = width_narrow (default_width m) f.width (default_narrow m) h

group_narrow : (l : Level) (f : LogFormat) → Narrow f.width → (group_format l f).width ≤ 512
unfolding format_for
group_narrow l f h = width_narrow 0 f.width (omega arith) h

part_small : (i j : ℕ) (t : List ℕ) → length (part i j t) ≤ length t
part_small i j t = omega (arith, length-take (j - i) (drop i t), length-drop i t)

swap : (a b : ℕ) → a * (16 * b) ≡ 16 * (a * b)
swap a b = sym (mul_assoc a 16 b) ∙ ap (λ (y : ℕ). y * b) (mul_comm a 16) ∙ mul_assoc 16 a b

-- each segment has a byte to spare, so that the sum stays below the bound
module _ (s : Settings) (t : List ℕ) (r : Record) (short : length t ≤ 1024) (fields : (m : LogMetadata) → length (wording r m) ≤ 8200) (shown : (m : LogMetadata) → length (field_text s r m) < 2 ^ 18) where
  specifier_small : (m : LogMetadata) (f : LogFormat) → Narrow f.width → length (segment_text s t r (specifier m f)) < 2 ^ 18
  unfolding raw_text format_of
  specifier_small m f h = by (is_bare (bare_message r) (specifier m f)) refl
    where
      by : (b : Bool) → is_bare (bare_message r) (specifier m f) ≡ b → length (segment_text s t r (specifier m f)) < 2 ^ 18
      by true e = omega (arith, ap length (segment_bare s t r (specifier m f) e), shown m)
      by false e = omega (
        arith,
        ap length (segment_formatted s t r (specifier m f) e),
        length_formatted_coarse s (specifier_format r.level m f) (field_text s r m),
        ap length (field_worded s t r m f e),
        specifier_narrow r.level m f h,
        fields m,
      )

  mutual
    unfolding size sizes segment_shown segments_shown text_of joined

    segment_small : (d : ℕ) (x : LogSegment) → Low d x → length (segment_text s t r x) + size x ≤ size x * scale d
    segment_small d (text i j) h = omega (arith, part_small i j t, one-mul (scale d), scale_least d)
    segment_small d (specifier m f) h = omega (arith, specifier_small m f h, one-mul (scale d), scale_least d)
    segment_small zero (group xs f) h = absurd h
    segment_small (suc d) (group xs f) h =
        omega (
          arith,
          length_formatted_coarse s (group_format r.level f) (segments_text s t r xs),
          group_narrow r.level f h.0,
          segments_small d xs h.1,
          swap (sizes xs + 1) (scale d),
          add-mul (sizes xs) 1 (scale d),
          one-mul (scale d),
          scale_least d,
        )

    segments_small : (d : ℕ) (xs : LogSegments) → Lows d xs → length (segments_text s t r xs) + sizes xs ≤ sizes xs * scale d
    segments_small d none h = omega arith
    segments_small d (more x rest) h =
        omega (
          arith,
          length-append (segment_text s t r x) (segments_text s t r rest),
          segment_small d x h.0,
          segments_small d rest h.1,
          add-mul (size x) (sizes rest) (scale d),
        )

  pub segment_counted : (x : LogSegment) → Low 8 x → size x ≤ 64 → length (segment_text s t r x) < 2 ^ 57
  segment_counted x h g = omega (arith, segment_small 8 x h, mul-le-mul_right (scale 8) g)

  pub segments_counted : (xs : LogSegments) → Lows 8 xs → sizes xs ≤ 64 → length (segments_text s t r xs) < 2 ^ 56
  segments_counted xs h g = omega (arith, segments_small 8 xs h, mul-le-mul_right (scale 8) g)

-- so every text of a line's segments can be counted, and so can the line
module _ (s : Settings) (cells : List Cell) (t d : List ℕ) (x : Shown) (n : ℕ) (w : Writable cells t d x n) where
  fields_short : (m : LogMetadata) → length (wording (record_by x d) m) ≤ 8200
  unfolding record_by
  fields_short m = wording_short (laid_by x.places d) w.texts m

  shown_short : (m : LogMetadata) → length (field_text s (record_by x d) m) < 2 ^ 18
  unfolding record_by
  shown_short m = field_short s (laid_by x.places d) w.texts m

  pub countable : Countable s t (record_by x d) cells n
  countable = record {
    size = λ i h. segment_counted s t (record_by x d) w.template fields_short shown_short (segment_at cells i) (w.sound.low i h) (w.sound.few i h);
  }

  pub line_counted : length (segments_text s t (record_by x d) (chain_at cells n)) < 2 ^ 57
  line_counted = omega (arith, segments_counted s t (record_by x d) w.template fields_short shown_short (chain_at cells n) w.low w.few)
