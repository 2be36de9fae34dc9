-- Scaffolding, for proofs alone: what the three bytes before a place tell of what may come there, in terms of table 3-7. Assumes nothing.
use Rattle.std.specs.Prelude.{ℕ, min, max, ◌+◌, ◌-◌, ◌<◌, ◌≤◌, ◌≡◌, Bool, true, false, Option, Some, None, List, [], ◌∷◌, length, take, get_or}
use Rattle.utf8.specs.Utf8.{Range, ◌to◌, trail, Awaited, awaited, broken, run, valid}

-- what the first k bytes of a text leave to come
abbrev pub reached : List ℕ → ℕ → Awaited
reached s k = run (awaited []) (take k s)

-- the text with three zeros before it, at the place k: its byte three places before k
abbrev pub past : List ℕ → ℕ → ℕ
past s k = get_or (0 ∷ 0 ∷ 0 ∷ s) k 0

-- something may still come, or a character has just ended: the text is not broken
abbrev pub Lives : Awaited → Type 0
Lives (awaited m) = Unit {0}
Lives broken = ⊥

-- the lines of table 3-7 with more than one byte: the first is c, the second lies in l to h, and then come those in `more`
pub data Opens : ℕ → ℕ → ℕ → List Range → Type 0 where
  two : (c : ℕ) → 0xC2 ≤ c → c ≤ 0xDF → Opens c 0x80 0xBF []
  e0 : (c : ℕ) → c ≡ 0xE0 → Opens c 0xA0 0xBF (trail ∷ [])
  three : (c : ℕ) → 0xE1 ≤ c → c ≤ 0xEC → Opens c 0x80 0xBF (trail ∷ [])
  ed : (c : ℕ) → c ≡ 0xED → Opens c 0x80 0x9F (trail ∷ [])
  three_more : (c : ℕ) → 0xEE ≤ c → c ≤ 0xEF → Opens c 0x80 0xBF (trail ∷ [])
  f0 : (c : ℕ) → c ≡ 0xF0 → Opens c 0x90 0xBF (trail ∷ trail ∷ [])
  four : (c : ℕ) → 0xF1 ≤ c → c ≤ 0xF3 → Opens c 0x80 0xBF (trail ∷ trail ∷ [])
  f4 : (c : ℕ) → c ≡ 0xF4 → Opens c 0x80 0x8F (trail ∷ trail ∷ [])

-- what is to come after the bytes a, b and c of a text that is not broken: a character has ended; c has begun one; b has begun one of
-- three bytes, or of four; a has begun one of four
pub data Follows : ℕ → ℕ → ℕ → Awaited → Type 0 where
  ended : (a b c : ℕ) → a < 0xF0 → b < 0xE0 → c < 0xC0 → Follows a b c (awaited [])
  first : (a b c l h : ℕ) (more : List Range) → a < 0xE0 → b < 0xC0 → Opens c l h more → Follows a b c (awaited (l to h ∷ more))
  second_of_three : (a b c : ℕ) → a < 0xE0 → 0xE0 ≤ b → b < 0xF0 → 0x80 ≤ c → c < 0xC0 → Follows a b c (awaited (trail ∷ []))
  second_of_four : (a b c : ℕ) → a < 0xE0 → 0xF0 ≤ b → 0x80 ≤ c → c < 0xC0 → Follows a b c (awaited (trail ∷ trail ∷ []))
  third_of_four : (a b c : ℕ) → 0xF0 ≤ a → 0x80 ≤ b → b < 0xC0 → 0x80 ≤ c → c < 0xC0 → Follows a b c (awaited (trail ∷ []))

-- at the place k the three bytes before it tell what is to come
abbrev pub Told : List ℕ → ℕ → Type 0
Told s k = Follows (past s k) (past s (k + 1)) (past s (k + 2)) (reached s k)

-- where the text is not broken at a place from i up to e, it is not broken one byte on
abbrev pub Unbroken : List ℕ → ℕ → ℕ → Type 0
Unbroken s i e = (k : ℕ) → i ≤ k → k < e → Told s k → Told s (k + 1)

-- 0 says that the text is not broken, any other number that it is
abbrev pub Judged : ℕ → Awaited → Type 0
Judged r x = (r ≡ 0 → Lives x) × (0 < r → x ≡ broken)

-- 0 says that no byte from i up to e breaks the text, any other number that one does
abbrev pub Checked : List ℕ → ℕ → ℕ → ℕ → Type 0
Checked s i e r = (r ≡ 0 → Unbroken s i e) × (0 < r → valid s ≡ false)

-- `true` says that these bytes are a character, `false` that they are none
abbrev pub Whole : List ℕ → Bool → Type 0
Whole t true = run (awaited []) t ≡ awaited []
Whole t false = run (awaited []) t ≡ broken

-- `Some e` says that a character of the text ends at e, at `least` or after it; `None` that the text is broken
abbrev pub EndsBy : List ℕ → ℕ → Option ℕ → Type 0
EndsBy s least (Some e) = (least ≤ e) × (e ≤ length s) × (reached s e ≡ awaited [])
EndsBy s least None = valid s ≡ false

-- the greatest of some bytes, 0 where there are none
abbrev pub top_of : List ℕ → ℕ
top_of [] = 0
top_of (b ∷ s) = max b (top_of s)

-- 1 where x is y, else 0
abbrev pub alike : ℕ → ℕ → ℕ
alike x y = 1 - ((x - y) + (y - x))

-- 1 where x is below y, else 0
abbrev pub less : ℕ → ℕ → ℕ
less x y = min 1 (y - x)

-- how many of the bytes a, b and c ask that the next one go on with a character
abbrev pub due_after : ℕ → ℕ → ℕ → ℕ
due_after a b c = less 0xEF a + less 0xDF b + less 0xBF c
