-- A buffer with bytes written into it. Assumes nothing.
use Rattle.std.specs.Prelude.{ℕ, ◌+◌, ◌≡◌, refl, true, false, List, ◌++◌, leb, length, take, drop}
use Rattle.buffer.specs.Bytes.{bytes}

-- the buffer d with s from place `at` on
unfoldable pub put_at : List ℕ → ℕ → List ℕ → List ℕ
put_at d at s = take at d ++ (s ++ drop (at + length s) d)

-- the buffer d with the text x at its front where it fits, else as it was
unfoldable pub written : List ℕ → List ℕ → List ℕ
written d x = elim (leb (length x) (length d)) [ true ↦ put_at d 0 x | false ↦ d ]

-- d became d': x stands in it from place `at` on, and r is the place after it
abbrev pub Puts : List ℕ → List ℕ → ℕ → List ℕ → ℕ → Type 0
Puts d d' at x r = (r ≡ at + length x) × (d' ≡ put_at d at x)

-- d became d': x stands at its front where it fits, and r is the length of x in any case
abbrev pub Writes : List ℕ → List ℕ → List ℕ → ℕ → Type 0
Writes d d' x r = (r ≡ length x) × (d' ≡ written d x)

put_inside : put_at (bytes "......") 2 (bytes "abc") ≡ bytes "..abc."
unfolding put_at
put_inside = refl
