-- A character of UTF-8 by its bytes: how many there are, and its code point (Unicode's table 3-6, read backwards). Assumes nothing.
use Rattle.std.specs.Prelude.{ℕ, ◌+◌, ◌*◌, ◌%◌, ◌≡◌, refl, true, false, [], ◌∷◌, ltb}

-- how many bytes a character has, by its first byte
unfoldable pub size_of : ℕ → ℕ
size_of b =
    elim (ltb b 0xC0) [
      | true ↦ 1
      | false ↦ elim (ltb b 0xE0) [ true ↦ 2 | false ↦ elim (ltb b 0xF0) [ true ↦ 3 | false ↦ 4 ] ]
    ]

-- the bits x, and behind them the six of a byte that goes on
abbrev pub with_six : ℕ → ℕ → ℕ
with_six x b = x * 0x40 + b % 0x40

-- the code point of the character that begins with the byte a; b, c and d are the bytes behind it, of which it may have some
unfoldable pub point : ℕ → ℕ → ℕ → ℕ → ℕ
point a b c d =
    elim (ltb a 0xC0) [
      | true ↦ a
      | false ↦ elim (ltb a 0xE0) [
        | true ↦ with_six (a % 0x20) b
        | false ↦ elim (ltb a 0xF0) [
          | true ↦ with_six (with_six (a % 0x10) b) c
          | false ↦ with_six (with_six (with_six (a % 8) b) c) d
        ]
      ]
    ]

one_to_four : point 0x61 0 0 0 ∷ point 0xC3 0xA9 0 0 ∷ point 0xE2 0x94 0x94 0 ∷ point 0xF0 0x9F 0x98 0x80 ∷ [] ≡ 0x61 ∷ 0xE9 ∷ 0x2514 ∷ 0x1F600 ∷ []
unfolding point
one_to_four = refl
