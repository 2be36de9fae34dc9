-- Characters (Unicode scalar values) of a text, and how many there are; whether a byte is in a text. Assumes nothing.
use Rattle.std.specs.Prelude.{ℕ, ◌+◌, ◌≡◌, refl, Bool, true, false, cond, List, [], ◌∷◌, eqb}
use Rattle.buffer.specs.Bytes.{bytes, byte}
use Rattle.utf8.specs.Utf8.{within, trail, Awaited, awaited, step, complete, begun}

-- 1 for a byte that begins a character, 0 for one that goes on with it
unfoldable pub begins : ℕ → ℕ
begins b = elim (within trail b) [ true ↦ 0 | false ↦ 1 ]

-- the number of characters of a text: of the bytes that begin one
abbrev pub chars : List ℕ → ℕ
chars [] = 0
chars (b ∷ s) = begins b + chars s

-- 1 for true, 0 for false
abbrev pub one_if : Bool → ℕ
one_if true = 1
one_if false = 0

-- whether the byte b is in a text
abbrev pub has : ℕ → List ℕ → Bool
has b [] = false
has b (x ∷ s) = cond (eqb x b) true (has b s)

-- the number of characters that a text completes, by table 3-7: in valid texts the same number (`chars_completed`)
abbrev pub completed : Awaited → List ℕ → ℕ
completed a [] = 0
completed a (b ∷ s) = one_if (complete (step a b)) + completed (step a b) s

characters_counted : chars (bytes "aé└😀") ≡ 4
unfolding begins within
characters_counted = refl

characters_by_table : completed (awaited []) (bytes "aé└😀") ≡ 4
unfolding within begun step
characters_by_table = refl

byte_found : has (byte "l") (bytes "hello") ≡ true
byte_found = refl

byte_missed : has (byte "k") (bytes "hello") ≡ false
byte_missed = refl
