-- Ranges of code points, and the table that code has of them. Assumes nothing.
use Rattle.std.specs.Prelude.{ℕ, ◌+◌, Bool, true, false, ◌&&◌, List, [], ◌∷◌, leb, ltb}
use Rattle.utf8.specs.Utf8.{Range, within}

-- whether x lies in one of the ranges
unfoldable pub among : List Range → ℕ → Bool
among [] x = false
among (r ∷ rest) x = elim (within r x) [ true ↦ true | false ↦ among rest x ]

-- the ends of the ranges by turns: where each begins, and the code point after it
unfoldable pub ends : List Range → List ℕ
ends [] = []
ends (r ∷ rest) = r.first ∷ (r.last + 1) ∷ ends rest

-- whether x lies in one of the ranges that have these ends; a last one without its end goes on for ever
unfoldable pub among_ends : List ℕ → ℕ → Bool
among_ends [] x = false
among_ends (a ∷ []) x = leb a x
among_ends (a ∷ (b ∷ rest)) x = elim (leb a x && ltb x b) [ true ↦ true | false ↦ among_ends rest x ]

-- whether each number is above the one before it, the first of them above p
unfoldable pub rises_from : ℕ → List ℕ → Bool
rises_from p [] = true
rises_from p (x ∷ xs) = elim (ltb p x) [ true ↦ rises_from x xs | false ↦ false ]
