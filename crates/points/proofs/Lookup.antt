-- How many ends are x or less says whether x lies in a range: an odd number, it does. Assumes nothing.
use mathlib.Core.Path.{◌≡◌, refl, sym, ap, ◌∙◌}
use mathlib.Core.Bool.{Bool, true, false, ◌&&◌}
use mathlib.Core.List.{List, [], ◌∷◌}
use Prim.Native.Nat.{ℕ, zero, suc, ◌+◌, ◌%◌, ◌≤◌, ◌<◌, zero-le, suc-le-suc}
use native.Mathlib.Nat.{not-suc-le-zero, le_of_suc-le-suc}
use native.Mathlib.Omega.{arith}
use lib.Dec.{eqb, leb, ltb}
use borrow.Author.Tests.{le-leb, lt-leb, lt-ltb, le-ltb, leb-true, leb-false}
use Rattle.utf8.specs.Utf8.{Range, within}
use Rattle.points.specs.Ranges.{among, ends, among_ends}
use Rattle.points.specs.Searching.{UpTo, odd}

two_more : (n : ℕ) → odd (suc (suc n)) ≡ odd n
two_more n = ap (λ (k : ℕ). eqb k 1) (let q : suc (suc n) % 2 ≡ n % 2 = omega arith in q)

-- one entry less in front
tail : (a : ℕ) (xs : List ℕ) (x r : ℕ) → UpTo (a ∷ xs) x (suc r) → UpTo xs x r
tail a xs x r u = record {
  few = le_of_suc-le-suc u.few;
  below = λ k h. u.below (suc k) (suc-le-suc h);
  above = λ k h g. u.above (suc k) (suc-le-suc h) (suc-le-suc g);
}

none_before : (a : ℕ) (xs : List ℕ) (x : ℕ) → UpTo (a ∷ xs) x 0 → UpTo xs x 0
none_before a xs x u = record {
  few = zero-le;
  below = λ k h. absurd (not-suc-le-zero h);
  above = λ k h g. u.above (suc k) zero-le (suc-le-suc g);
}

-- ---- of a range x lies before, in or behind

or_else : Bool → Bool → Bool
or_else t m = elim t [ true ↦ true | false ↦ m ]

module _ (a b : ℕ) (rest : List ℕ) (x : ℕ) where
  ends_by : (t : Bool) → (leb a x && ltb x b) ≡ t → among_ends (a ∷ (b ∷ rest)) x ≡ or_else t (among_ends rest x)
  unfolding among_ends or_else
  ends_by t e = ap (λ (u : Bool). or_else u (among_ends rest x)) e

  ends_before : x < a → among_ends (a ∷ (b ∷ rest)) x ≡ among_ends rest x
  unfolding or_else
  ends_before h = ends_by false (rw (lt-leb a x h))

  ends_in : a ≤ x → x < b → among_ends (a ∷ (b ∷ rest)) x ≡ true
  unfolding or_else
  ends_in g h = ends_by true (rw (le-leb a x g, lt-ltb x b h))

  ends_behind : b ≤ x → among_ends (a ∷ (b ∷ rest)) x ≡ among_ends rest x
  unfolding or_else
  ends_behind h = ends_by false (either (leb a x) (ltb x b) (le-ltb x b h))
    where
      either : (t u : Bool) → u ≡ false → (t && u) ≡ false
      either true u e = e
      either false u e = refl

pub ends_odd : (xs : List ℕ) (x n : ℕ) → UpTo xs x n → odd n ≡ among_ends xs x
unfolding among_ends
ends_odd [] x zero u = refl
ends_odd [] x (suc n) u = absurd (not-suc-le-zero u.few)
ends_odd (a ∷ []) x zero u = sym (lt-leb a x (u.above 0 zero-le (suc-le-suc zero-le)))
ends_odd (a ∷ []) x (suc zero) u = sym (le-leb a x (u.below 0 (suc-le-suc zero-le)))
ends_odd (a ∷ []) x (suc (suc n)) u = absurd (not-suc-le-zero (le_of_suc-le-suc u.few))
ends_odd (a ∷ (b ∷ rest)) x zero u =
    ends_odd rest x zero (none_before b rest x (none_before a (b ∷ rest) x u))
    ∙ sym (ends_before a b rest x (u.above 0 zero-le (suc-le-suc zero-le)))
ends_odd (a ∷ (b ∷ rest)) x (suc zero) u =
    sym (ends_in a b rest x (u.below 0 (suc-le-suc zero-le)) (u.above 1 (suc-le-suc zero-le) (suc-le-suc (suc-le-suc zero-le))))
ends_odd (a ∷ (b ∷ rest)) x (suc (suc n)) u =
    two_more n
    ∙ ends_odd rest x n (tail b rest x n (tail a (b ∷ rest) x (suc n) u))
    ∙ sym (ends_behind a b rest x (u.below 1 (suc-le-suc (suc-le-suc zero-le))))

-- ---- ranges by their ends

below_next : (x n : ℕ) → ltb x (n + 1) ≡ leb x n
below_next x n = by (leb x n) refl
  where
    by : (t : Bool) → leb x n ≡ t → ltb x (n + 1) ≡ leb x n
    by true e = lt-ltb x (n + 1) (omega (arith, leb-true x n e)) ∙ sym e
    by false e = le-ltb x (n + 1) (omega (arith, leb-false x n e)) ∙ sym e

and_also : (t u : Bool) → (t && u) ≡ elim t as (λ _. Bool) [ true ↦ u | false ↦ false ]
and_also true u = refl
and_also false u = refl

pub among_ends_lem : (rs : List Range) (x : ℕ) → among_ends (ends rs) x ≡ among rs x
unfolding ends among within or_else
among_ends_lem [] x = unfold among_ends in refl
among_ends_lem (r ∷ rest) x =
    ends_by r.first (r.last + 1) (ends rest) x (within r x) (ap (λ (t : Bool). leb r.first x && t) (below_next x r.last) ∙ and_also (leb r.first x) (leb x r.last))
    ∙ ap (or_else (within r x)) (among_ends_lem rest x)

pub among_odd : (rs : List Range) (x n : ℕ) → UpTo (ends rs) x n → odd n ≡ among rs x
among_odd rs x n u = ends_odd (ends rs) x n u ∙ among_ends_lem rs x
