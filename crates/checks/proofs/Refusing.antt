-- Laws of the refusals of a record: which test gives which, and in what order. Assumes nothing.
use mathlib.Core.Path.{◌≡◌, refl, ap, sym}
use mathlib.Core.Bool.{Bool, true, false, ◌||◌, ◌&&◌}
use mathlib.Core.List.{List}
use Prim.Native.Nat.{ℕ, ◌-◌, ◌/◌, ◌%◌, ◌≤◌, ◌<◌}
use native.Mathlib.Omega.{arith}
use lib.Dec.{eqb, ltb}
use borrow.Author.Tests.{lt-ltb, le-ltb, eq-eqb, ne_eqb}
use Rattle.std.specs.Prelude.{Result, Ok, Err, IsErrAnd, ⊤}
use lib.ListN.{length}
use Rattle.buffer.specs.Table.{Maybe, some}
use Rattle.buffer.proofs.Parts.{part_length}
use Rattle.refusals.specs.declared.Refusal.{Refusal}
use Rattle.record.specs.declared.Places.{Places}
use Rattle.record.specs.Placed.{laid_by, PlacesWithin}
use Rattle.checks.specs.Checks.{host_without_level, absent_but_there, absent_field, or_next}
use Rattle.checks.specs.Told.{tell_checked}
use Rattle.record.specs.Contents.{has_file, has_line, has_module, has_serial}

-- ---- refusal 14

and_true : (b : Bool) → b ≡ (b && true)
and_true true = refl
and_true false = refl

and_false : (b : Bool) → false ≡ (b && false)
and_false true = refl
and_false false = refl

-- the tests of a level's number, by what the number means
module _ (source number : ℕ) where
  pub of_print : number ≡ 0 → eqb source 1 ≡ (ltb 5 number || host_without_level source number)
  of_print e = rw (le-ltb 5 number (omega arith), eq-eqb number 0 e) (and_true (eqb source 1))

  pub of_level : (0 < number) × (number ≤ 5) → false ≡ (ltb 5 number || host_without_level source number)
  of_level h = rw (le-ltb 5 number h.1, ne_eqb number 0 (λ e. omega (arith, h.0))) (and_false (eqb source 1))

  pub of_refused : 5 < number → true ≡ (ltb 5 number || host_without_level source number)
  of_refused h = rw (lt-ltb 5 number h)

-- the fields of refusal 14, told of places
pub absent_told : (p : Places) (d : List ℕ) → PlacesWithin (length d) p → absent_field (laid_by p d)
    ≡ (absent_but_there (eqb (p.mask % 2) 1) (p.file_to - p.file_from)
    || absent_but_there (eqb (p.mask / 2 % 2) 1) p.line
    || absent_but_there (eqb (p.mask / 4 % 2) 1) (p.module_to - p.module_from)
    || absent_but_there (eqb (p.mask / 8 % 2) 1) (p.serial_to - p.serial_from))
unfolding absent_field has_file has_line has_module has_serial laid_by
absent_told p d w =
    rw (
      part_length d p.file_from p.file_to w.file.0 w.file.1,
      part_length d p.module_from p.module_to w.module_path.0 w.module_path.1,
      part_length d p.serial_from p.serial_to w.serial.0 w.serial.1,
    )

-- ---- the texts in turn

module _ (c : Result ⊤ Refusal) (x : Maybe Refusal) (next : Unit {0} → Maybe Refusal) where
  -- a text that is refused decides, and q hands its refusal on
  pub stopped : (q : Result ⊤ Refusal) (r : Refusal) → c ≡ Err r → tell_checked c ≡ x → IsErrAnd q (λ e. e ≡ r) → tell_checked q ≡ or_next x next
  unfolding or_next tell_checked
  stopped (Ok u) r e t h = absurd h
  stopped (Err f) r e t h = rw (sym t, e, or_next, tell_checked) (ap some h)

  -- one that passes leaves it to the next
  pub passed : (u : ⊤) → c ≡ Ok u → tell_checked c ≡ x → or_next x next ≡ next tt
  unfolding or_next tell_checked
  passed u e t = rw (sym t, e, or_next, tell_checked)
