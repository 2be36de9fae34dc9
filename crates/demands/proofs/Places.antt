-- `PlacesDemand` holds. Assumes nothing.
use Prim.Native.Nat.{ℕ, ◌+◌, ◌-◌, ◌/◌, ◌%◌, ◌<◌}
use mathlib.Core.Path.{◌≡◌, refl, ap, sym, ◌∙◌}
use mathlib.Core.Bool.{Bool, true, false}
use mathlib.Core.List.{List, [], ◌∷◌}
use native.Mathlib.Omega.{arith}
use lib.ListN.{length}
use borrow.Author.Tests.{eq-eqb, ne_eqb}
use Rattle.buffer.specs.Bytes.{character}
use Rattle.characters.specs.Characters.{chars, one_if}
use Rattle.widths.specs.declared.Rule.{Rule}
use Rattle.widths.specs.declared.Wides.{Wides}
use Rattle.widths.specs.Widths.{is_wide, wide_in_order, none_begun, ran, places, count}
use Rattle.widths.proofs.Characters.{one_character, places_character, count_behind}
use Rattle.widths.proofs.Running.{ran_begins}
use Rattle.colour.specs.declared.Settings.{Settings}
use Rattle.colour.specs.declared.Format.{Format}
use Rattle.colour.specs.Sequences.{visible}
use Rattle.colour.specs.Formatting.{due}
use Rattle.settings.specs.Bits.{rule_of, settings_of}
use Rattle.demands.specs.PlacesDemand.{two_or_one, PlacesDemand}

one_more : (b : Bool) → 1 + one_if b ≡ two_or_one b
unfolding two_or_one
one_more true = refl
one_more false = refl

places_of : (n : ℕ) → n < 0x110000 → count Rule.Places (character n) ≡ two_or_one (is_wide n)
places_of n h = places_character n h ∙ one_more (is_wide n)

chosen : (b : ℕ) → b / 16 % 2 ≡ 1 → (settings_of b).rule ≡ Rule.Places
unfolding settings_of rule_of
chosen b h = rw (eq-eqb (b / 16 % 2) 1 h, rule_of)

default : (b : ℕ) → b / 16 % 2 ≡ 0 → (settings_of b).rule ≡ Rule.Characters
unfolding settings_of rule_of
default b h = rw (ne_eqb (b / 16 % 2) 1 (λ e. omega (arith, e, h)), rule_of)

same_due : (s u : Settings) (f : Format) (t : List ℕ) → count s.rule (visible t) ≡ count u.rule (visible t) → due s f t ≡ due u f t
unfolding due
same_due s u f t e = ap (λ (n : ℕ). f.width - n) e

-- no wide character is counted
none_wide : (t : List ℕ) → chars t ≡ length t → (ran (none_begun 0) t).wide ≡ 0
unfolding ran
none_wide [] e = refl
none_wide (b ∷ t) e = ap (λ (w : Wides). w.wide) (ran_begins (none_begun 0) b t e)

as_characters : (r : Rule) (t : List ℕ) → chars t ≡ length t → count r t ≡ chars t
unfolding count places
as_characters Rule.Characters t e = refl
as_characters Rule.Places t e = omega (arith, none_wide t e)

pub places_demand : PlacesDemand
places_demand = record {
  places = places_of;
  characters = one_character;
  one_by_one = λ r n h t. count_behind n h r t;
  in_order = wide_in_order;
  chosen = chosen;
  default = default;
  same_due = same_due;
  same_ascii = λ r q t e. as_characters r t e ∙ sym (as_characters q t e);
}
