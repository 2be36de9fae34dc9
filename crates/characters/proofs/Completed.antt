-- In a valid text the bytes that begin a character are as many as the characters that are complete. Assumes nothing.
use mathlib.Core.Path.{◌≡◌, refl, ap}
use mathlib.Core.Bool.{Bool, true, false}
use mathlib.Core.List.{List, [], ◌∷◌}
use Prim.Native.Nat.{ℕ, ◌+◌, ◌<◌, ◌≤◌}
use native.Mathlib.Omega.{arith}
use Rattle.utf8.specs.Utf8.{Range, ◌to◌, within, trail, forms, Awaited, awaited, broken, begun, step, run, complete, valid}
use Rattle.characters.specs.Characters.{begins, chars, one_if, completed}
use Rattle.utf8.proofs.Ranges.{within_true}
use Rattle.characters.proofs.Counting.{begins_below, begins_above, begins_trail}
use Rattle.utf8.proofs.Running.{run_broken}

-- ranges of trailing bytes only
data Trailing : List Range → Type 0 where
  no_more : Trailing []
  trailing : (r : Range) {more : List Range} → 0x80 ≤ r.first → r.last ≤ 0xBF → Trailing more → Trailing (r ∷ more)

-- forms whose first byte is no trailing byte, and all others are
data Led : List (List Range) → Type 0 where
  no_form : Led []
  below : (r : Range) {more : List Range} {rest : List (List Range)} → r.last < 0x80 → Trailing more → Led rest → Led ((r ∷ more) ∷ rest)
  above : (r : Range) {more : List Range} {rest : List (List Range)} → 0xBF < r.first → Trailing more → Led rest → Led ((r ∷ more) ∷ rest)

-- 1 where a character has begun and not ended
abbrev opened : List Range → ℕ
opened [] = 0
opened (r ∷ more) = 1

-- the byte b, which came where m was awaited, begins a character just where none was open
abbrev Stepped : List Range → ℕ → Awaited → Type 0
Stepped m b (awaited more) = (opened m + begins b ≡ 1) × Trailing more
Stepped m b broken = Unit

module _ (r : Range) (more : List Range) (rest : List (List Range)) (b : ℕ) where
  leads : within r b ≡ true → Led ((r ∷ more) ∷ rest) → (begins b ≡ 1) × Trailing more
  leads e (below _ h t k) = let w = within_true r b e in (begins_below b (omega arith), t)
  leads e (above _ h t k) = let w = within_true r b e in (begins_above b (omega arith), t)

  rest_led : Led ((r ∷ more) ∷ rest) → Led rest
  rest_led (below _ h t k) = k
  rest_led (above _ h t k) = k

  try_form : Led ((r ∷ more) ∷ rest) → Stepped [] b (begun rest b) → (t : Bool) → within r b ≡ t
      → Stepped [] b (elim t [ true ↦ awaited more | false ↦ begun rest b ])
  try_form l others true e = let w = leads e l in (omega (arith, w.0), w.1)
  try_form l others false e = others

step_begun : (fs : List (List Range)) (b : ℕ) → Led fs → Stepped [] b (begun fs b)
unfolding begun
step_begun [] b l = tt
step_begun ([] ∷ rest) b l = elim l [ ]
step_begun ((r ∷ more) ∷ rest) b l =
    try_form r more rest b l (step_begun rest b (rest_led r more rest b l)) (within r b) refl

try_range : (r : Range) (more : List Range) (b : ℕ) → Trailing (r ∷ more) → (t : Bool) → within r b ≡ t
    → Stepped (r ∷ more) b (elim t [ true ↦ awaited more | false ↦ broken ])
try_range r more b (trailing _ f g k) true e =
    let w = within_true r b e in
    let z : begins b ≡ 0 = begins_trail b (omega arith) (omega arith) in
    (omega arith, k)
try_range r more b l false e = tt

one : Trailing (trail ∷ [])
one = trailing trail (omega arith) (omega arith) no_more

two : Trailing (trail ∷ trail ∷ [])
two = trailing trail (omega arith) (omega arith) one

three : Trailing (trail ∷ trail ∷ trail ∷ [])
three = trailing trail (omega arith) (omega arith) two

-- table 3-7 has such forms only
led_forms : Led forms
led_forms =
    below (0x00 to 0x7F) (omega arith) no_more
    (above (0xC2 to 0xDF) (omega arith) one
    (above (0xE0 to 0xE0) (omega arith) (trailing (0xA0 to 0xBF) (omega arith) (omega arith) one)
    (above (0xE1 to 0xEC) (omega arith) two
    (above (0xED to 0xED) (omega arith) (trailing (0x80 to 0x9F) (omega arith) (omega arith) one)
    (above (0xEE to 0xEF) (omega arith) two
    (above (0xF0 to 0xF0) (omega arith) (trailing (0x90 to 0xBF) (omega arith) (omega arith) two)
    (above (0xF1 to 0xF3) (omega arith) three
    (above (0xF4 to 0xF4) (omega arith) (trailing (0x80 to 0x8F) (omega arith) (omega arith) two) no_form))))))))

stepped : (m : List Range) (b : ℕ) → Trailing m → Stepped m b (step (awaited m) b)
unfolding step
stepped [] b l = step_begun forms b led_forms
stepped (r ∷ more) b l = try_range r more b l (within r b) refl

-- a character is open, or has just ended
open_or_ended : (more : List Range) → one_if (complete (awaited more)) + opened more ≡ 1
open_or_ended [] = refl
open_or_ended (r ∷ more) = refl

-- what is to be shown of the text s, wherever it goes on
abbrev Counts : List ℕ → Type 0
Counts s = (m : List Range) → Trailing m → complete (run (awaited m) s) ≡ true → opened m + chars s ≡ completed (awaited m) s

next : (m : List Range) (b : ℕ) (s : List ℕ) → Counts s → (a : Awaited) → Stepped m b a → complete (run a s) ≡ true
    → opened m + (begins b + chars s) ≡ one_if (complete a) + completed a s
next m b s later (awaited more) l v =
    omega (arith, l.0, later more l.1 v, open_or_ended more)
next m b s later broken l v =
    let e : complete (run broken s) ≡ false = ap complete (run_broken s) in
    cc

counts : (s : List ℕ) → Counts s
counts [] [] l v = refl
counts [] (r ∷ more) l v = cc
counts (b ∷ s) m l v = next m b s (counts s) (step (awaited m) b) (stepped m b l) v

pub chars_completed : (s : List ℕ) → valid s ≡ true → chars s ≡ completed (awaited []) s
chars_completed s v = omega (arith, counts s [] no_more v)
