-- How many components a path can have, and how long they are with their slashes. Assumes nothing.
use mathlib.Core.Path.{◌≡◌, refl}
use mathlib.Core.Bool.{Bool, true, false}
use mathlib.Core.List.{List, [], ◌∷◌, ◌++◌}
use Prim.Native.Nat.{ℕ, suc, ◌+◌, ◌≤◌}
use native.Mathlib.Omega.{arith}
use lib.Dec.{eqb}
use lib.ListN.{length, length-append}
use Rattle.buffer.specs.Bytes.{bytes, same}
use Rattle.paths.specs.Paths.{before_first, pieces, is_dropped, kept, root, starts_with_dot, leading_dot, components, slashed}

pub slashed_first : (x : List ℕ) (xs : List (List ℕ)) → length (slashed (x ∷ xs)) ≡ 1 + (length x + length (slashed xs))
unfolding slashed
slashed_first x xs = omega (arith, length-append x (slashed xs))

slashed_before : (b : ℕ) (ps : List (List ℕ)) → 1 ≤ length (slashed ps) → length (slashed (before_first b ps)) ≡ 1 + length (slashed ps)
unfolding before_first slashed
slashed_before b [] h = absurd (omega arith)
slashed_before b (x ∷ rest) h = omega arith

-- all pieces, each with a slash before it, are as long as the path and one slash more
slashed_pieces : (s : List ℕ) → length (slashed (pieces s)) ≡ length s + 1
unfolding pieces slashed
slashed_pieces [] = refl
slashed_pieces (b ∷ s) = by_case (eqb b 0x2F) (slashed_pieces s)
  where
    by_case : (t : Bool) → length (slashed (pieces s)) ≡ length s + 1
        → length (slashed (elim t [ true ↦ [] ∷ pieces s | false ↦ before_first b (pieces s) ])) ≡ suc (length s) + 1
    by_case true h = omega arith
    by_case false h = omega (arith, slashed_before b (pieces s) (omega arith))

slashed_kept : (xs : List (List ℕ)) → length (slashed (kept xs)) ≤ length (slashed xs)
unfolding kept slashed
slashed_kept [] = omega arith
slashed_kept (x ∷ rest) = by_case (is_dropped x) (slashed_kept rest)
  where
    by_case : (t : Bool) → length (slashed (kept rest)) ≤ length (slashed rest)
        → length (slashed (elim t [ true ↦ kept rest | false ↦ x ∷ kept rest ])) ≤ length (slashed (x ∷ rest))
    by_case true h = omega (arith, slashed_first x rest)
    by_case false h = omega (arith, slashed_first x rest, slashed_first x (kept rest))

-- what is kept of a path, each component with a slash before it
slashed_short : (s : List ℕ) → length (slashed (kept (pieces s))) ≤ length s + 1
slashed_short s = omega (arith, slashed_kept (pieces s), slashed_pieces s)

-- a kept component has a byte
kept_bytes : (xs : List (List ℕ)) → length (kept xs) + length (kept xs) ≤ length (slashed (kept xs))
unfolding kept slashed is_dropped same
kept_bytes [] = omega arith
kept_bytes ([] ∷ rest) = kept_bytes rest
kept_bytes ((b ∷ x) ∷ rest) = by_case (is_dropped (b ∷ x)) (kept_bytes rest)
  where
    by_case : (t : Bool) → length (kept rest) + length (kept rest) ≤ length (slashed (kept rest))
        → length {A = List ℕ} (elim t [ true ↦ kept rest | false ↦ (b ∷ x) ∷ kept rest ]) + length {A = List ℕ} (elim t [ true ↦ kept rest | false ↦ (b ∷ x) ∷ kept rest ])
        ≤ length (slashed (elim t [ true ↦ kept rest | false ↦ (b ∷ x) ∷ kept rest ]))
    by_case true h = h
    by_case false h = omega (arith, slashed_first (b ∷ x) (kept rest))

-- the root and what is kept are no more than the bytes
rooted_few : (s : List ℕ) → length (root s ++ kept (pieces s)) ≤ length s
unfolding root pieces kept is_dropped same
rooted_few [] = omega arith
rooted_few (b ∷ s) = by_case (eqb b 0x2F)
  where
    by_case : (t : Bool)
        → length {A = List ℕ} (elim t [ true ↦ bytes "/" ∷ [] | false ↦ [] ] ++ kept (elim t [ true ↦ [] ∷ pieces s | false ↦ before_first b (pieces s) ])) ≤ suc (length s)
    by_case true = omega (arith, kept_bytes (pieces s), slashed_short s)
    by_case false =
        let p = slashed_pieces s in
        let f = before_first b (pieces s) in
        omega (arith, kept_bytes f, slashed_kept f, slashed_before b (pieces s) (omega arith))

dot_few : (s : List ℕ) → length (leading_dot s) ≤ 1
unfolding leading_dot
dot_few s = by_case (starts_with_dot s)
  where
    by_case : (t : Bool) → length {A = List ℕ} (elim t [ true ↦ bytes "." ∷ [] | false ↦ [] ]) ≤ 1
    by_case true = omega arith
    by_case false = omega arith

-- a path has at most one component more than bytes
pub components_few : (s : List ℕ) → length (components s) ≤ length s + 1
unfolding components
components_few s =
    let k = kept (pieces s) in
    omega (arith, length-append (root s) (leading_dot s ++ k), length-append (leading_dot s) k, length-append (root s) k, rooted_few s, dot_few s)

slashed_append : (xs ys : List (List ℕ)) → length (slashed (xs ++ ys)) ≡ length (slashed xs) + length (slashed ys)
unfolding slashed
slashed_append [] ys = omega arith
slashed_append (x ∷ xs) ys = omega (arith, slashed_first x (xs ++ ys), slashed_first x xs, slashed_append xs ys)

slashed_root : (s : List ℕ) → length (slashed (root s)) ≤ 2
unfolding root slashed
slashed_root [] = omega arith
slashed_root (b ∷ s) = by_case (eqb b 0x2F)
  where
    by_case : (t : Bool) → length (slashed (elim t [ true ↦ bytes "/" ∷ [] | false ↦ [] ])) ≤ 2
    by_case true = omega arith
    by_case false = omega arith

slashed_dot : (s : List ℕ) → length (slashed (leading_dot s)) ≤ 2
unfolding leading_dot slashed
slashed_dot s = by_case (starts_with_dot s)
  where
    by_case : (t : Bool) → length (slashed (elim t [ true ↦ bytes "." ∷ [] | false ↦ [] ])) ≤ 2
    by_case true = omega arith
    by_case false = omega arith

-- the components of a path, each with a slash before it
pub slashed_components : (s : List ℕ) → length (slashed (components s)) ≤ length s + 5
unfolding components
slashed_components s =
    let k = kept (pieces s) in
    omega (arith, slashed_append (root s) (leading_dot s ++ k), slashed_append (leading_dot s) k, slashed_root s, slashed_dot s, slashed_short s)
