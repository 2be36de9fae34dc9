-- Laws of a path's pieces and components, one after the other from the front. Assumes nothing.
use mathlib.Core.Path.{◌≡◌, refl, ap, sym, ◌∙◌}
use mathlib.Core.Bool.{Bool, true, false, ◌||◌, ◌&&◌}
use mathlib.Core.List.{List, [], ◌∷◌}
use Prim.Native.Nat.{ℕ, suc, ◌+◌, ◌≤◌}
use native.Mathlib.Omega.{arith}
use lib.Dec.{eqb, ltb}
use lib.ListN.{length, get_or, take, drop}
use borrow.Author.Tests.{eq-eqb, ne_eqb, eqb-true, eqb-false, lt-ltb}
use Rattle.std.proofs.Common.{one-add}
use Rattle.std.specs.List.{position_or_len}
use Rattle.buffer.specs.Bytes.{same}
use Rattle.buffer.proofs.Sameness.{both_true}
use Rattle.paths.specs.Paths.{before_first, pieces, is_dropped, kept, root, starts_with_dot, leading_dot, components}

pub eqb_sym : (a b : ℕ) → eqb a b ≡ eqb b a
eqb_sym a b = go (eqb a b) refl
  where
    go : (t : Bool) → eqb a b ≡ t → eqb a b ≡ eqb b a
    go true e = e ∙ sym (eq-eqb b a (sym (eqb-true a b e)))
    go false e = e ∙ sym (ne_eqb b a (λ q. eqb-false a b e (sym q)))

-- ---- one piece

by_dot : (t : Bool) → elim t [ true ↦ true | false ↦ false ] ≡ t
by_dot true = refl
by_dot false = refl

never : (t : Bool) → elim t [ true ↦ false | false ↦ false ] ≡ false
never true = refl
never false = refl

-- "Empty components and components that are `.` are dropped", by length and first byte
pub dropped_by : (x : List ℕ) → is_dropped x ≡ (eqb (length x) 0 || (eqb (length x) 1 && eqb (get_or x 0 0) 0x2E))
unfolding is_dropped same
dropped_by [] = refl
dropped_by (a ∷ []) = by_dot (eqb 0x2E a) ∙ eqb_sym 0x2E a
dropped_by (a ∷ (b ∷ x)) =
    let n = length (a ∷ (b ∷ x)) in
    rw (ne_eqb n 0 (λ e. omega (arith, e)), ne_eqb n 1 (λ e. omega (arith, e))) (never (eqb 0x2E a))

and_true : (t : Bool) → t ≡ (t && true)
and_true true = refl
and_true false = refl

-- a `.` at the very start, by length and first bytes
pub dot_by : (x : List ℕ) → starts_with_dot x ≡ (eqb (get_or x 0 0) 0x2E && (eqb (length x) 1 || (ltb 1 (length x) && eqb (get_or x 1 0) 0x2F)))
unfolding starts_with_dot
dot_by [] = refl
dot_by (a ∷ []) = and_true (eqb a 0x2E)
dot_by (a ∷ (b ∷ x)) =
    let n = length (a ∷ (b ∷ x)) in
    rw (ne_eqb n 1 (λ e. omega (arith, e)), lt-ltb 1 n (omega arith)) refl

-- ---- pieces

-- how many bytes stand before the first slash
abbrev to_slash : List ℕ → ℕ
to_slash s = position_or_len (λ b. eqb b 0x2F) s

-- a path's first piece, and the others
record Begins (s : List ℕ) : Type 0 where
  others : List (List ℕ)
  piece : pieces s ≡ take (to_slash s) s ∷ others
  rest : kept others ≡ kept (pieces (drop (to_slash s + 1) s))

begins : (s : List ℕ) → Begins s
unfolding before_first pieces kept is_dropped same
begins [] = record { others = []; piece = refl; rest = refl }
begins (b ∷ s) = by_case (eqb b 0x2F) refl (begins s)
  where
    by_case : (t : Bool) → eqb b 0x2F ≡ t → Begins s → Begins (b ∷ s)
    by_case true e r = record { others = pieces s; piece = rw (e, pieces) refl; rest = rw e refl }
    by_case false e r =
        let k : 1 + to_slash s + 1 ≡ suc (to_slash s + 1) = omega arith in
        record { others = r.others; piece = rw (e, pieces, one-add) (ap (before_first b) r.piece); rest = rw (e, k) r.rest }

-- what is kept of a path: its first piece, and what is kept behind its slash
pub first_kept : (s : List ℕ) → kept (pieces s) ≡ kept (take (to_slash s) s ∷ pieces (drop (to_slash s + 1) s))
unfolding kept
first_kept s =
    let r = begins s in
    let x = take (to_slash s) s in
    ap kept r.piece ∙ ap (λ (l : List (List ℕ)). elim (is_dropped x) [ true ↦ l | false ↦ x ∷ l ]) r.rest

pub piece_dropped : (x : List ℕ) (ps : List (List ℕ)) → is_dropped x ≡ true → kept (x ∷ ps) ≡ kept ps
unfolding kept
piece_dropped x ps e = rw (e, kept) refl

pub piece_kept : (x : List ℕ) (ps : List (List ℕ)) → is_dropped x ≡ false → kept (x ∷ ps) ≡ x ∷ kept ps
unfolding kept
piece_kept x ps e = rw (e, kept) refl

pub none_kept : (s : List ℕ) → length s ≡ 0 → kept (pieces s) ≡ []
unfolding pieces kept is_dropped same
none_kept [] e = refl
none_kept (b ∷ s) e = cc

-- ---- components

-- the first byte is one by itself: a slash, or a `.` at the very start
rooted : (s : List ℕ) → components (0x2F ∷ s) ≡ (0x2F ∷ []) ∷ kept (pieces s)
unfolding components root starts_with_dot leading_dot pieces kept is_dropped same
rooted [] = refl
rooted (c ∷ s) = refl

dotted : (b : ℕ) (s : List ℕ) → starts_with_dot (b ∷ s) ≡ true → components (b ∷ s) ≡ (b ∷ []) ∷ kept (pieces s)
unfolding components root starts_with_dot leading_dot before_first pieces kept is_dropped same
dotted b [] e = rw (eqb-true b 0x2E e) refl
dotted b (c ∷ s) e =
    let t = both_true (eqb b 0x2E) (eqb c 0x2F) e in
    rw (eqb-true b 0x2E t.0, eqb-true c 0x2F t.1) refl

pub alone : (s : List ℕ) → (eqb (get_or s 0 0) 0x2F || starts_with_dot s) ≡ true → (1 ≤ length s) × (components s ≡ take 1 s ∷ kept (pieces (drop 1 s)))
unfolding starts_with_dot
alone [] e = cc
alone (b ∷ s) e = (omega arith, by_case (eqb b 0x2F) refl e)
  where
    by_case : (t : Bool) → eqb b 0x2F ≡ t → (t || starts_with_dot (b ∷ s)) ≡ true → components (b ∷ s) ≡ (b ∷ []) ∷ kept (pieces s)
    by_case true q e = rw (eqb-true b 0x2F q) (rooted s)
    by_case false q e = dotted b s e

neither : (t u : Bool) → (t || u) ≡ false → (t ≡ false) × (u ≡ false)
neither true u e = cc
neither false u e = (refl, e)

-- no byte is one by itself
pub plain : (s : List ℕ) → (eqb (get_or s 0 0) 0x2F || starts_with_dot s) ≡ false → components s ≡ kept (pieces s)
unfolding components root starts_with_dot leading_dot pieces kept is_dropped same
plain [] e = refl
plain (b ∷ s) e =
    let f = neither (eqb b 0x2F) (starts_with_dot (b ∷ s)) e in
    rw (f.0, f.1, root, leading_dot) refl
