-- Bytes: the bytes of a quoted text, a single one, a part of a list of bytes, whether two lists of bytes are the same. Assumes nothing.
use Rattle.std.specs.Prelude.{ℕ, ◌+◌, ◌-◌, ◌/◌, ◌%◌, ◌≡◌, refl, Bool, true, false, List, [], ◌∷◌, ◌++◌, eqb, ltb, take, drop}
use Prim.Native.String.{String}
use Prim.Native.Char.{code}

-- a byte that goes on with a character: the low six bits of n
abbrev pub onward : ℕ → ℕ
onward n = 0x80 + n % 0x40

-- the bytes of the character with code point n (UTF-8, Unicode's table 3-6)
abbrev pub character : ℕ → List ℕ
character n =
    elim (ltb n 0x80) [
      | true ↦ n ∷ []
      | false ↦ elim (ltb n 0x800) [
        | true ↦ (0xC0 + n / 0x40) ∷ onward n ∷ []
        | false ↦ elim (ltb n 0x10000) [
          | true ↦ (0xE0 + n / 0x1000) ∷ onward (n / 0x40) ∷ onward n ∷ []
          | false ↦ (0xF0 + n / 0x40000) ∷ onward (n / 0x1000) ∷ onward (n / 0x40) ∷ onward n ∷ []
        ]
      ]
    ]

-- the bytes of a quoted text
abbrev pub bytes : String → List ℕ
bytes String.[] = []
bytes (String.◌∷◌ c s) = character (code c) ++ bytes s

-- the byte of an ASCII character, as `{`, written as it is
abbrev pub byte : String → ℕ
byte String.[] = 0
byte (String.◌∷◌ c s) = code c

-- the bytes of d from place i up to place e
abbrev pub part : ℕ → ℕ → List ℕ → List ℕ
part i e d = take (e - i) (drop i d)

-- whether two lists of bytes are the same
unfoldable pub same : List ℕ → List ℕ → Bool
same [] [] = true
same [] (b ∷ y) = false
same (a ∷ x) [] = false
same (a ∷ x) (b ∷ y) = elim (eqb a b) [ true ↦ same x y | false ↦ false ]

ascii : bytes "{L}" ≡ 123 ∷ 76 ∷ 125 ∷ []
ascii = refl

one_byte : byte "{" ∷ byte "}" ∷ [] ≡ bytes "{}"
one_byte = refl

accented : bytes "é└😀" ≡ 0xC3 ∷ 0xA9 ∷ 0xE2 ∷ 0x94 ∷ 0x94 ∷ 0xF0 ∷ 0x9F ∷ 0x98 ∷ 0x80 ∷ []
accented = refl
