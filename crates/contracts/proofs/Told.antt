-- An answer of the code is settled by what it tells. Assumes nothing.
use Prim.Native.Nat.{ℕ}
use mathlib.Core.Path.{◌≡◌, refl, sym, ap, ◌∙◌}
use Rattle.std.specs.Prelude.{Option, Some, None, Result, Ok, Err, ⊤}
use Rattle.buffer.specs.Table.{Maybe, none, some}
use Rattle.refusals.specs.declared.Refusal.{Refusal}
use Rattle.unused.specs.Looking.{place_told}
use Rattle.checks.specs.Told.{tell_checked}

-- ---- whether a record passes its checks

checked_back : Maybe Refusal → Result ⊤ Refusal
checked_back none = Ok tt
checked_back (some r) = Err r

checked_again : (x : Result ⊤ Refusal) → checked_back (tell_checked x) ≡ x
unfolding tell_checked checked_back
checked_again (Ok done) = refl
checked_again (Err r) = refl

pub told_checked : (x y : Result ⊤ Refusal) → tell_checked x ≡ tell_checked y → x ≡ y
told_checked x y e = sym (checked_again x) ∙ ap checked_back e ∙ checked_again y

-- ---- a place, if there is one

place_back : Maybe ℕ → Option ℕ
place_back none = None
place_back (some p) = Some p

place_again : (x : Option ℕ) → place_back (place_told x) ≡ x
unfolding place_back
place_again None = refl
place_again (Some p) = refl

pub told_place : (x y : Option ℕ) → place_told x ≡ place_told y → x ≡ y
told_place x y e = sym (place_again x) ∙ ap place_back e ∙ place_again y
