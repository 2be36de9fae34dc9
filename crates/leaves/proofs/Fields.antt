-- What is lent tells of a comparison, and what a specifier shows by it. Assumes nothing.
use Prim.Native.Nat.{ℕ, ◌≤◌, ◌<◌, ◌^◌}
use mathlib.Core.Path.{◌≡◌, refl, sym, ap, ◌∙◌, subst}
use mathlib.Core.Bool.{Bool, true, false}
use mathlib.Core.List.{List}
use native.Mathlib.Omega.{arith}
use lib.ListN.{length}
use Rattle.std.specs.Prelude.{Option, Some, None}
use Rattle.std.specs.Option.{is_some}
use Rattle.buffer.specs.Table.{Maybe, none, some}
use Rattle.words.specs.declared.LogMetadata.{LogMetadata}
use Rattle.words.specs.declared.LogMetadata.TheVariants.{CrateName, FileName, FilePath, LineNumber, Log, LogLevel, ModulePath, Timestamp, HeadSerial}
use Rattle.colour.specs.declared.Settings.{Settings}
use Rattle.colour.specs.Shown.{Members, joined}
use Rattle.colour.specs.Shown as shown
use Rattle.record.specs.Records.{Record}
use Rattle.comparisons.specs.declared.Spans.{Spans}
use Rattle.comparisons.specs.Comparisons.{Comparison, comparison, layout}
use Rattle.comparisons.specs.Places.{head_text, placed, layout_by, layout_for, SpansWithin}
use Rattle.fields.specs.Texts.{wording}
use Rattle.fields.specs.Lines.{compared_from, comparison_of}
use Rattle.layouts.specs.Runs.{laid_text}
use Rattle.comparisons.proofs.Short.{laid_small}
use Rattle.record.specs.declared.Source.{Source}
use Rattle.record.specs.declared.Source.TheVariants.{Defmt, Host}
use Rattle.leaves.specs.declared.Shown.{Shown}
use Rattle.leaves.specs.Places.{has_comparison, record_by, Lent}
use Rattle.leaves.specs.Fields.{is_there, message_text, field_text, laid}

-- ---- a comparison by its layout

abbrev or_none : Maybe Members → Members
or_none none = shown.none
or_none (some m) = m

abbrev is_given : Maybe Members → Bool
is_given none = false
is_given (some m) = true

pub text_laid : (s : Settings) (x : List ℕ) (c : Maybe Comparison) (m : Members) → layout_for c ≡ some m → message_text s x c ≡ joined s m
unfolding layout_for message_text
text_laid s x none m e = let z : false ≡ true = ap is_given e in cc
text_laid s x (some c) m e = ap (λ (y : Maybe Members). joined s (or_none y)) e

pub none_laid : (c : Maybe Comparison) → layout_for c ≡ none → c ≡ none
unfolding layout_for
none_laid none e = refl
none_laid (some c) e = let z : true ≡ false = ap is_given e in cc

there_laid : (c : Maybe Comparison) (m : Members) → layout_for c ≡ some m → is_there c ≡ true
unfolding layout_for is_there
there_laid none m e = let z : false ≡ true = ap is_given e in cc
there_laid (some c) m e = refl

-- ---- how long one is

compared_some : (q : Source) (m : List ℕ) (c : Comparison) → compared_from q m ≡ some c → comparison m ≡ some c
unfolding compared_from
compared_some Defmt m c e = e
compared_some Host m c e = cc

text_small : (s : Settings) (r : Record) → length r.message ≤ 4096 → (c : Maybe Comparison) → comparison_of r ≡ c → length (message_text s r.message c) < 2 ^ 18
unfolding message_text
text_small s r h none e = omega arith
text_small s r h (some c) e = laid_small s r.message c (compared_some r.source r.message c e) h

pub message_small : (s : Settings) (r : Record) → length r.message ≤ 4096 → length (field_text s r Log) < 2 ^ 18
unfolding field_text
message_small s r h = text_small s r h (comparison_of r) refl

-- ---- by what is lent

module _ (d : List ℕ) (x : Shown) (h : Lent d x) where
  laid_by_lem : (o : Option Spans) → x.spans ≡ o → layout_for (comparison_of (record_by x d)) ≡ layout_by d x.places.message_from o
  unfolding record_by
  laid_by_lem o e = sym h.compared.laid ∙ ap (λ (q : Option Spans). layout_by d x.places.message_from q) e

  laid_there : (c : Spans) → x.spans ≡ Some c → layout_for (comparison_of (record_by x d)) ≡ some (placed (head_text x.places.message_from c.head d) d c)
  unfolding layout_by
  laid_there c e = laid_by_lem (Some c) e

  laid_nowhere : x.spans ≡ None → comparison_of (record_by x d) ≡ none
  unfolding layout_by
  laid_nowhere e = none_laid (comparison_of (record_by x d)) (laid_by_lem None e)

  -- whether there is one
  pub there_told : is_there (comparison_of (record_by x d)) ≡ has_comparison x
  unfolding is_there has_comparison
  there_told = by x.spans refl
    where
      by : (o : Option Spans) → x.spans ≡ o → is_there (comparison_of (record_by x d)) ≡ has_comparison x
      by (Some c) e = there_laid (comparison_of (record_by x d)) _ (laid_there c e) ∙ sym (ap is_some e)
      by None e = ap is_there (laid_nowhere e) ∙ sym (ap is_some e)

  -- where it stands
  spans_told : (c : Spans) → x.spans ≡ Some c → SpansWithin x.places.message_from (length d) (Some c)
  spans_told c e =
      let w : SpansWithin x.places.message_from x.places.message_to (Some c) = subst (λ (o : Option Spans). SpansWithin x.places.message_from x.places.message_to o) e h.compared.within in
      (w.0, ((w.1.0.0, omega (arith, w.1.0.1, h.places.message.1)), w.1.1))

  -- ---- what a specifier shows

  module _ (s : Settings) where
    message_laid : (c : Spans) → x.spans ≡ Some c → field_text s (record_by x d) Log ≡ laid_text s d x.places.message_from c
    unfolding field_text
    message_laid c e = text_laid s (record_by x d).message (comparison_of (record_by x d)) _ (laid_there c e)

    message_worded : x.spans ≡ None → field_text s (record_by x d) Log ≡ wording (record_by x d) Log
    unfolding field_text message_text wording
    message_worded e = ap (message_text s (record_by x d).message) (laid_nowhere e)

    pub field_worded : (m : LogMetadata) → laid x m ≡ None → field_text s (record_by x d) m ≡ wording (record_by x d) m
    unfolding laid field_text
    field_worded CrateName e = refl
    field_worded (FileName k) e = refl
    field_worded FilePath e = refl
    field_worded LineNumber e = refl
    field_worded Log e = message_worded e
    field_worded LogLevel e = refl
    field_worded ModulePath e = refl
    field_worded Timestamp e = refl
    field_worded HeadSerial e = refl

    -- a layout by the places that are lent
    abbrev pub Laid : LogMetadata → Spans → Type 0
    Laid m c =
        SpansWithin x.places.message_from (length d) (Some c)
        × ((field_text s (record_by x d) m ≡ laid_text s d x.places.message_from c) × (length (laid_text s d x.places.message_from c) < 2 ^ 57))

    nothing_laid : (m : LogMetadata) (c : Spans) → None ≡ Some c → Laid m c
    nothing_laid m c e = let z : false ≡ true = ap is_some e in cc

    pub laid_at : (m : LogMetadata) (c : Spans) → laid x m ≡ Some c → Laid m c
    unfolding laid
    laid_at CrateName c e = nothing_laid CrateName c e
    laid_at (FileName k) c e = nothing_laid (FileName k) c e
    laid_at FilePath c e = nothing_laid FilePath c e
    laid_at LineNumber c e = nothing_laid LineNumber c e
    laid_at Log c e = (spans_told c e, (message_laid c e, omega (arith, ap length (message_laid c e), message_small s (record_by x d) h.short)))
    laid_at LogLevel c e = nothing_laid LogLevel c e
    laid_at ModulePath c e = nothing_laid ModulePath c e
    laid_at Timestamp c e = nothing_laid Timestamp c e
    laid_at HeadSerial c e = nothing_laid HeadSerial c e
