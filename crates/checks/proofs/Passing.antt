-- A record that passes its checks: what it is then known to hold. Assumes nothing.
use mathlib.Core.Path.{◌≡◌, refl}
use mathlib.Core.Bool.{Bool, true, false, ◌||◌}
use mathlib.Core.List.{List}
use Prim.Native.Nat.{ℕ, ◌≤◌}
use lib.Dec.{leb}
use lib.ListN.{length}
use borrow.Author.Tests.{ltb-false, leb-true}
use Rattle.buffer.specs.Table.{Maybe, none, some}
use Rattle.utf8.specs.Utf8.{valid}
use Rattle.refusals.specs.declared.Refusal.{Refusal}
use Rattle.record.specs.declared.Form.{Form}
use Rattle.record.specs.Layout.{Laid}
use Rattle.checks.specs.Checks.{most_mask, bad_numbers, badly_marked, most_field, most_serial, field_refusal, or_next, fields_refusal, record_refusal}

-- a text that is neither too long nor broken
pub record Sound (most : ℕ) (t : List ℕ) : Type 0 where
  pub short : length t ≤ most
  pub utf8 : valid t ≡ true

pub record Passes (form : Form) (l : Laid) : Type 0 where
  pub source : l.source ≤ 1
  pub level : l.level ≤ 5
  pub mask : l.mask ≤ most_mask form
  pub file : Sound most_field l.file
  pub module_path : Sound most_field l.module_path
  pub timestamp : Sound most_field l.timestamp
  pub message : Sound most_field l.message
  pub serial : Sound most_serial l.serial

neither : (a b : Bool) → (a || b) ≡ false → (a ≡ false) × (b ≡ false)
neither true b e = (cc, cc)
neither false b e = (refl, e)

unmarked : (b : Bool) (x : Maybe Refusal) → ◌≡◌ {A = Maybe Refusal} (elim b [ true ↦ some Refusal.NotARecord | false ↦ x ]) none → (b ≡ false) × (x ≡ none)
unmarked true x e = (cc, cc)
unmarked false x e = (refl, e)

or_none_lem : (x : Maybe Refusal) (k : Unit {0} → Maybe Refusal) → or_next x k ≡ none → (x ≡ none) × (k tt ≡ none)
unfolding or_next
or_none_lem none k e = (refl, e)
or_none_lem (some r) k e = (cc, cc)

sound_field : (a b : Bool)
    → ◌≡◌ {A = Maybe Refusal} (elim a [ true ↦ elim b [ true ↦ none | false ↦ some Refusal.FieldNotUtf8 ] | false ↦ some Refusal.FieldTooLong ]) none
    → (a ≡ true) × (b ≡ true)
sound_field true true e = (refl, refl)
sound_field true false e = (cc, cc)
sound_field false b e = (cc, cc)

pub field_sound : (most : ℕ) (t : List ℕ) → field_refusal most t ≡ none → Sound most t
unfolding field_refusal
field_sound most t e =
    let s = sound_field (leb (length t) most) (valid t) e in
    record { short = leb-true (length t) most s.0; utf8 = s.1 }

-- a record that is not refused
pub passes : (form : Form) (l : Laid) → record_refusal form l ≡ none → Passes form l
unfolding record_refusal fields_refusal badly_marked bad_numbers
passes form l e =
    let u = unmarked (badly_marked form l) (fields_refusal l) e in
    let f = or_none_lem _ _ u.1 in
    let m = or_none_lem _ _ f.1 in
    let t = or_none_lem _ _ m.1 in
    let s = or_none_lem _ _ t.1 in
    let b = neither _ _ (neither _ _ u.0).0 in
    let k = neither _ _ b.0 in
    let n = neither _ _ k.0 in
    record {
      source = ltb-false 1 l.source n.0;
      level = ltb-false 5 l.level n.1;
      mask = ltb-false (most_mask form) l.mask b.1;
      file = field_sound most_field l.file f.0;
      module_path = field_sound most_field l.module_path m.0;
      timestamp = field_sound most_field l.timestamp t.0;
      message = field_sound most_field l.message s.0;
      serial = field_sound most_serial l.serial s.1;
    }
