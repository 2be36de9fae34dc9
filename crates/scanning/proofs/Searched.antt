-- Laws of the search that only code needs: texts without byte 27, padding. Assumes nothing.
use mathlib.Core.Path.{◌≡◌, refl, ap, sym, subst, ◌∙◌}
use mathlib.Core.Bool.{Bool, true, false}
use mathlib.Core.List.{List, [], ◌∷◌}
use Rattle.std.specs.Prelude.{◌||◌}
use Rattle.std.specs.List.{list_any}
use Prim.Native.Nat.{ℕ, suc, ◌+◌, ◌-◌, ◌<◌, ◌≤◌}
use native.Mathlib.Omega.{arith}
use lib.ListN.{length, drop, get_or, replicate, drop_of_length-le}
use lib.Dec.{leb, eqb}
use borrow.Author.Tests.{ne_eqb, eq-eqb, leb-true, leb-false}
use Rattle.utf8.specs.Utf8.{within}
use Rattle.buffer.proofs.Parts.{drop_step}
use Rattle.utf8.proofs.Ranges.{within_in, within_below, within_above}
use Rattle.runs.specs.Runs.{digit}
use Rattle.colour.specs.declared.Scan.{Scan}
use Rattle.colour.specs.Sequences.{esc, in_sequence}
use Rattle.colour.specs.Machine.{act_of, moved, scan}
use Rattle.colour.specs.Texts.{Free}

-- what is false does not hold
pub never : false ≡ true → ⊥
never e = let z : ◌≡◌ {A = ℕ} 0 1 = cc in omega arith

-- ---- texts without byte 27

neither : (a b : Bool) → a || b ≡ false → (a ≡ false) × (b ≡ false)
neither false b e = (refl, e)
neither true b e = absurd (never (sym e))

pub free_of : (s : List ℕ) → list_any (λ b. eqb b esc) s ≡ false → Free s
free_of [] e = tt
free_of (b ∷ s) e =
    let n = neither (eqb b esc) (list_any (λ b. eqb b esc) s) e in
    (λ h. never (sym n.0 ∙ eq-eqb b esc h), free_of s n.1)

-- ---- the same byte many times

pub same_step : (t : Scan) (n i b : ℕ) → i < n → scan t (replicate (n - i) b) ≡ scan (moved (act_of t.state b) t) (replicate (n - (i + 1)) b)
same_step t n i b h = let e : n - i ≡ suc (n - (i + 1)) = omega arith in ap (λ (k : ℕ). scan t (replicate k b)) e

pub same_end : (t : Scan) (n i b : ℕ) → n ≤ i → scan t (replicate (n - i) b) ≡ t
same_end t n i b h = let e : n - i ≡ 0 = omega arith in ap (λ (k : ℕ). scan t (replicate k b)) e
