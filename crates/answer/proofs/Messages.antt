-- What is shown of a message alone, by the places of the comparison that it is. Assumes nothing.
use Prim.Native.Nat.{ℕ, ◌≤◌, ◌<◌, ◌^◌}
use mathlib.Core.Path.{◌≡◌, refl, sym, ap, ◌∙◌}
use mathlib.Core.Bool.{Bool, true, false, not}
use mathlib.Core.List.{List}
use native.Mathlib.Omega.{arith}
use borrow.Author.Tests.{ne_eqb}
use lib.Dec.{eqb}
use lib.ListN.{length}
use Rattle.buffer.specs.Bytes.{part}
use Rattle.buffer.specs.Table.{Maybe, none, some}
use Rattle.colour.specs.declared.Settings.{Settings}
use Rattle.colour.specs.Shown.{text, text_of}
use Rattle.record.specs.declared.Places.{Places}
use Rattle.record.specs.Records.{Record}
use Rattle.record.specs.Placed.{laid_by, PlacesWithin}
use Rattle.record.specs.Contents.{record_of}
use Rattle.comparisons.specs.declared.Spans.{Spans}
use Rattle.std.specs.Prelude.{Some, None}
use Rattle.comparisons.specs.Comparisons.{Comparison, layout, laid_or_else}
use Rattle.comparisons.specs.Places.{layout_by, SpansWithin}
use Rattle.fields.specs.Worded.{Compares}
use Rattle.fields.specs.Lines.{comparison_of, print_shown}
use Rattle.layouts.specs.Runs.{laid_text}
use Rattle.layouts.proofs.Running.{bare_group}
use Rattle.leaves.specs.Fields.{message_text, field_text}
use Rattle.leaves.proofs.Fields.{text_laid, none_laid, message_small}

-- ---- a message alone

shown_by_lem : (s : Settings) (m : List ℕ) (c : Maybe Comparison) → text_of s (laid_or_else (text m) c) ≡ message_text s m c
unfolding laid_or_else message_text text_of
shown_by_lem s m none = refl
shown_by_lem s m (some c) = bare_group s (layout c)

module _ (s : Settings) (r : Record) where
  print_text : text_of s (print_shown r) ≡ message_text s r.message (comparison_of r)
  unfolding print_shown
  print_text = shown_by_lem s r.message (comparison_of r)

  -- it isn't long where the message isn't
  pub print_small : length r.message ≤ 4096 → length (text_of s (print_shown r)) < 2 ^ 18
  unfolding field_text
  print_small h = omega (arith, ap length print_text, message_small s r h)

module _ (s : Settings) (d : List ℕ) (p : Places) where
  pub print_bare : Compares d p None → text_of s (print_shown (record_of (laid_by p d))) ≡ part p.message_from p.message_to d
  unfolding layout_by message_text record_of laid_by
  print_bare k =
      let r = record_of (laid_by p d) in
      print_text s r ∙ ap (message_text s r.message) (none_laid (comparison_of r) (sym k.laid))

  pub print_laid : (c : Spans) → Compares d p (Some c) → text_of s (print_shown (record_of (laid_by p d))) ≡ laid_text s d p.message_from c
  unfolding layout_by
  print_laid c k =
      let r = record_of (laid_by p d) in
      print_text s r ∙ text_laid s r.message (comparison_of r) _ (sym k.laid)

  pub print_within : (c : Spans) → Compares d p (Some c) → PlacesWithin (length d) p → SpansWithin p.message_from (length d) (Some c)
  print_within c k h = let w = k.within in
      (w.0, ((w.1.0.0, omega (arith, w.1.0.1, h.message.1)), w.1.1))
