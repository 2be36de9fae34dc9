-- UTF-8, as Unicode's table 3-7 gives it ("Well-Formed UTF-8 Byte Sequences"). Assumes nothing.
use Rattle.std.specs.Prelude.{ℕ, ◌≡◌, refl, Bool, true, false, List, [], ◌∷◌, leb}
use Rattle.buffer.specs.Bytes.{bytes}

-- the bytes from `first` up to `last`, both among them
pub record Range : Type 0 where
  pub first : ℕ
  pub last : ℕ

infix 70 ◌to◌
-- a range as it is written: 0x80 to 0xBF
abbrev pub ◌to◌ : ℕ → ℕ → Range
a to b = record { first = a; last = b }

-- whether the byte b lies in the range r
unfoldable pub within : Range → ℕ → Bool
within r b = elim (leb r.first b) [ true ↦ leb b r.last | false ↦ false ]

-- a byte that goes on with a character
abbrev pub trail : Range
trail = 0x80 to 0xBF

-- table 3-7: each way to write a character, a range for each of its bytes
abbrev pub forms : List (List Range)
forms =
    (0x00 to 0x7F ∷ [])
    ∷ (0xC2 to 0xDF ∷ trail ∷ [])
    ∷ (0xE0 to 0xE0 ∷ 0xA0 to 0xBF ∷ trail ∷ [])
    ∷ (0xE1 to 0xEC ∷ trail ∷ trail ∷ [])
    ∷ (0xED to 0xED ∷ 0x80 to 0x9F ∷ trail ∷ [])
    ∷ (0xEE to 0xEF ∷ trail ∷ trail ∷ [])
    ∷ (0xF0 to 0xF0 ∷ 0x90 to 0xBF ∷ trail ∷ trail ∷ [])
    ∷ (0xF1 to 0xF3 ∷ trail ∷ trail ∷ trail ∷ [])
    ∷ (0xF4 to 0xF4 ∷ 0x80 to 0x8F ∷ trail ∷ trail ∷ [])
    ∷ []

-- what may come next: bytes that lie in these ranges, none where a character has just ended; or nothing, the text is broken
pub data Awaited : Type 0 where
  awaited : List Range → Awaited
  broken : Awaited

-- what a first byte leaves to come: the rest of the form that it begins
unfoldable pub begun : List (List Range) → ℕ → Awaited
begun [] b = broken
begun ([] ∷ rest) b = begun rest b
begun ((r ∷ more) ∷ rest) b = elim (within r b) [ true ↦ awaited more | false ↦ begun rest b ]

-- what one byte more leaves to come
unfoldable pub step : Awaited → ℕ → Awaited
step (awaited []) b = begun forms b
step (awaited (r ∷ more)) b = elim (within r b) [ true ↦ awaited more | false ↦ broken ]
step broken b = broken

-- what a text leaves to come
abbrev pub run : Awaited → List ℕ → Awaited
run a [] = a
run a (b ∷ s) = run (step a b) s

-- whether a character has just ended
abbrev pub complete : Awaited → Bool
complete (awaited []) = true
complete (awaited (r ∷ more)) = false
complete broken = false

-- whether s is UTF-8: no overlong form, no surrogate, nothing above 10FFFF, no cut_off character (what Rust's `str::from_utf8` accepts)
abbrev pub valid : List ℕ → Bool
valid s = complete (run (awaited []) s)

one_to_four : valid (bytes "aé└😀") ≡ true
unfolding within begun step
one_to_four = refl

overlong_two : valid (0xC0 ∷ 0x80 ∷ []) ≡ false
unfolding within begun step
overlong_two = refl

overlong_three : valid (0xE0 ∷ 0x80 ∷ 0x80 ∷ []) ≡ false
unfolding within begun step
overlong_three = refl

surrogate : valid (0xED ∷ 0xA0 ∷ 0x80 ∷ []) ≡ false
unfolding within begun step
surrogate = refl

above_10_fFFF : valid (0xF4 ∷ 0x90 ∷ 0x80 ∷ 0x80 ∷ []) ≡ false
unfolding within begun step
above_10_fFFF = refl

no_trailing_byte : valid (0xC3 ∷ 0xC0 ∷ []) ≡ false
unfolding within begun step
no_trailing_byte = refl

cut_off : valid (0xE2 ∷ 0x82 ∷ []) ≡ false
unfolding within begun step
cut_off = refl

no_first_byte : valid (0xC0 ∷ []) ≡ false
unfolding within begun step
no_first_byte = refl
