-- Bytes of a template at places: runs of letters and digits. A text t is read from a place i up to an end e. Assumes nothing.
use Rattle.std.specs.Prelude.{ℕ, zero, suc, ◌+◌, ◌-◌, ◌*◌, Bool, true, false, ◌||◌, ◌&&◌, List, [], ◌∷◌, eqb, ltb, get_or}
use Rattle.buffer.specs.Bytes.{byte}
use Rattle.utf8.specs.Utf8.{◌to◌, within}

-- what stands for each byte of a letter beyond ASCII where names are read (letters/specs/Marked.antt); UTF-8 has no byte 255
abbrev pub letter_mark : ℕ
letter_mark = 0xFF

-- a byte of a letter: one of ASCII, or beyond it a mark
unfoldable pub letter : ℕ → Bool
letter b = within (byte "A" to byte "Z") b || within (byte "a" to byte "z") b || eqb b letter_mark

-- a byte that is an ASCII digit
unfoldable pub digit : ℕ → Bool
digit b = within (byte "0" to byte "9") b

-- the letter in lower case, any other byte as it is
unfoldable pub lower : ℕ → ℕ
lower b = elim (within (byte "A" to byte "Z") b) [ true ↦ b + 0x20 | false ↦ b ]

-- a word in lower case
unfoldable pub lowered : List ℕ → List ℕ
lowered [] = []
lowered (b ∷ w) = lower b ∷ lowered w

-- the number that decimal digits say, n being what the digits before them say
unfoldable pub decimal : ℕ → List ℕ → ℕ
decimal n [] = n
decimal n (b ∷ w) = decimal (n * 10 + (b - byte "0")) w

-- the byte b stands at place i, which is before e
unfoldable pub stands : ℕ → List ℕ → ℕ → ℕ → Bool
stands b t i e = ltb i e && eqb (get_or t i 0) b

-- where the run of bytes that pass a test ends, from i on, over n bytes at most
unfoldable pub run_end : (ℕ → Bool) → List ℕ → ℕ → ℕ → ℕ
run_end passes t zero i = i
run_end passes t (suc n) i = elim (passes (get_or t i 0)) [ true ↦ run_end passes t n (i + 1) | false ↦ i ]

-- where the run of letters from i on ends
abbrev pub letters_end : List ℕ → ℕ → ℕ → ℕ
letters_end t i e = run_end letter t (e - i) i

-- where the run of digits from i on ends
abbrev pub digits_end : List ℕ → ℕ → ℕ → ℕ
digits_end t i e = run_end digit t (e - i) i
