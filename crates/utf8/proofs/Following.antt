-- Laws of `Follows`: three bytes tell what is to come, and go on to tell it as long as the text is not broken. Assumes nothing.
use mathlib.Core.Path.{◌≡◌, refl, sym, subst}
use mathlib.Core.Bool.{false}
use mathlib.Core.List.{List, [], ◌∷◌}
use Prim.Native.Nat.{ℕ, ◌<◌, ◌≤◌}
use native.Mathlib.Decide.{dec_lt}
use native.Mathlib.Omega.{arith}
use Rattle.utf8.specs.Utf8.{Range, ◌to◌, trail, Awaited, awaited, broken, begun, forms, step, complete}
use Rattle.utf8.specs.Windows.{Lives, Opens, two, e0, three, ed, three_more, f0, four, f4, Follows, ended, first, second_of_three, second_of_four, third_of_four, due_after}
use Rattle.utf8.proofs.Ranges.{within_in, within_below, within_above}
use Rattle.utf8.proofs.Leading.{leads_ascii, leads_two, leads_e0, leads_three, leads_ed, leads_three_more, leads_f0, leads_four, leads_f4, leads_none_below, leads_none_above}

-- what the line of a first byte says of it and of the byte after it
pub opens_bounds : (c l h : ℕ) (more : List Range) → Opens c l h more → (0xC2 ≤ c) × (c ≤ 0xF4) × (0x80 ≤ l) × (h ≤ 0xBF)
opens_bounds c l h more (two _ f g) = (omega arith, omega arith, omega arith, omega arith)
opens_bounds c l h more (e0 _ f) = (omega arith, omega arith, omega arith, omega arith)
opens_bounds c l h more (three _ f g) = (omega arith, omega arith, omega arith, omega arith)
opens_bounds c l h more (ed _ f) = (omega arith, omega arith, omega arith, omega arith)
opens_bounds c l h more (three_more _ f g) = (omega arith, omega arith, omega arith, omega arith)
opens_bounds c l h more (f0 _ f) = (omega arith, omega arith, omega arith, omega arith)
opens_bounds c l h more (four _ f g) = (omega arith, omega arith, omega arith, omega arith)
opens_bounds c l h more (f4 _ f) = (omega arith, omega arith, omega arith, omega arith)

-- what a byte is as the first of a character
pub data First : ℕ → Awaited → Type 0 where
  alone : (d : ℕ) → d < 0x80 → First d (awaited [])
  opens : (d l h : ℕ) (more : List Range) → Opens d l h more → First d (awaited (l to h ∷ more))
  none_below : (d : ℕ) → 0x80 ≤ d → d < 0xC2 → First d broken
  none_above : (d : ℕ) → 0xF4 < d → First d broken

module _ (d : ℕ) where
  is : (x : Awaited) → begun forms d ≡ x → First d x → First d (begun forms d)
  is x e f = subst (First d) (sym e) f

  from_f0 : 0xF0 ≤ d → First d (begun forms d)
  from_f0 h =
      elim (dec_lt d 0xF1) [
        | yes a ↦ is _ (leads_f0 d (omega arith)) (opens d _ _ _ (f0 d (omega arith)))
        | no na ↦ elim (dec_lt d 0xF4) [
          | yes b ↦ is _ (leads_four d (omega arith) (omega arith)) (opens d _ _ _ (four d (omega arith) (omega arith)))
          | no nb ↦ elim (dec_lt d 0xF5) [
            | yes e ↦ is _ (leads_f4 d (omega arith)) (opens d _ _ _ (f4 d (omega arith)))
            | no ne ↦ is _ (leads_none_above d (omega arith)) (none_above d (omega arith))
          ]
        ]
      ]

  from_e0 : 0xE0 ≤ d → d < 0xF0 → First d (begun forms d)
  from_e0 h g =
      elim (dec_lt d 0xE1) [
        | yes a ↦ is _ (leads_e0 d (omega arith)) (opens d _ _ _ (e0 d (omega arith)))
        | no na ↦ elim (dec_lt d 0xED) [
          | yes b ↦ is _ (leads_three d (omega arith) (omega arith)) (opens d _ _ _ (three d (omega arith) (omega arith)))
          | no nb ↦ elim (dec_lt d 0xEE) [
            | yes e ↦ is _ (leads_ed d (omega arith)) (opens d _ _ _ (ed d (omega arith)))
            | no ne ↦ is _ (leads_three_more d (omega arith) (omega arith)) (opens d _ _ _ (three_more d (omega arith) (omega arith)))
          ]
        ]
      ]

  below_e0 : d < 0xE0 → First d (begun forms d)
  below_e0 h =
      elim (dec_lt d 0x80) [
        | yes a ↦ is _ (leads_ascii d (omega arith)) (alone d a)
        | no na ↦ elim (dec_lt d 0xC2) [
          | yes b ↦ is _ (leads_none_below d (omega arith) b) (none_below d (omega arith) b)
          | no nb ↦ is _ (leads_two d (omega arith) (omega arith)) (opens d _ _ _ (two d (omega arith) (omega arith)))
        ]
      ]

  -- each byte is one of them
  pub first_byte : First d (begun forms d)
  first_byte =
      elim (dec_lt d 0xE0) [
        | yes a ↦ below_e0 a
        | no na ↦ elim (dec_lt d 0xF0) [ yes b ↦ from_e0 (omega arith) b | no nb ↦ from_f0 (omega arith) ]
      ]

-- a byte in the range that comes next, and one outside it
module _ (l h d : ℕ) (more : List Range) where
  pub step_in : l ≤ d → d ≤ h → step (awaited (l to h ∷ more)) d ≡ awaited more
  unfolding step
  step_in f g = rw (within_in l h d f g, step)

  pub step_below : d < l → step (awaited (l to h ∷ more)) d ≡ broken
  unfolding step
  step_below f = rw (within_below l h d f, step)

  pub step_above : h < d → step (awaited (l to h ∷ more)) d ≡ broken
  unfolding step
  step_above f = rw (within_above l h d f, step)

  -- if it does not break the text, it lies in the range
  pub step_lives : Lives (step (awaited (l to h ∷ more)) d) → (l ≤ d) × (d ≤ h)
  step_lives v =
      elim (dec_lt d l) [
        | yes a ↦ absurd (subst Lives (step_below a) v)
        | no na ↦ elim (dec_lt h d) [ yes b ↦ absurd (subst Lives (step_above b) v) | no nb ↦ (omega arith, omega arith) ]
      ]

-- a first byte tells after the second what is to come
after_first : (b c d l h : ℕ) (more : List Range) → b < 0xC0 → Opens c l h more → 0x80 ≤ d → d < 0xC0 → Follows b c d (awaited more)
after_first b c d l h more g (two _ f k) p q = ended b c d (omega arith) (omega arith) q
after_first b c d l h more g (e0 _ f) p q = second_of_three b c d (omega arith) (omega arith) (omega arith) p q
after_first b c d l h more g (three _ f k) p q = second_of_three b c d (omega arith) (omega arith) (omega arith) p q
after_first b c d l h more g (ed _ f) p q = second_of_three b c d (omega arith) (omega arith) (omega arith) p q
after_first b c d l h more g (three_more _ f k) p q = second_of_three b c d (omega arith) (omega arith) (omega arith) p q
after_first b c d l h more g (f0 _ f) p q = second_of_four b c d (omega arith) (omega arith) p q
after_first b c d l h more g (four _ f k) p q = second_of_four b c d (omega arith) (omega arith) p q
after_first b c d l h more g (f4 _ f) p q = second_of_four b c d (omega arith) (omega arith) p q

after_ended : (b c d : ℕ) (x : Awaited) → b < 0xE0 → c < 0xC0 → First d x → Lives x → Follows b c d x
after_ended b c d x f g (alone _ h) v = ended b c d (omega arith) (omega arith) (omega arith)
after_ended b c d x f g (opens _ l h more o) v = first b c d l h more f g o
after_ended b c d x f g (none_below _ h k) v = absurd v
after_ended b c d x f g (none_above _ h) v = absurd v

-- one byte on
pub follows_on : (a b c d : ℕ) (x : Awaited) → Follows a b c x → Lives (step x d) → Follows b c d (step x d)
unfolding step
follows_on a b c d x (ended _ _ _ f g k) v = after_ended b c d (begun forms d) g k (first_byte d) v
follows_on a b c d x (first _ _ _ l h more f g o) v =
    let w = step_lives l h d more v in
    let z = opens_bounds c l h more o in
    subst (Follows b c d) (sym (step_in l h d more w.0 w.1))
    (after_first b c d l h more g o (omega (arith, w.0, z.2)) (omega (arith, w.1, z.3)))
follows_on a b c d x (second_of_three _ _ _ f g h k n) v =
    let w = step_lives 0x80 0xBF d [] v in
    subst (Follows b c d) (sym (step_in 0x80 0xBF d [] w.0 w.1)) (ended b c d (omega arith) (omega arith) (omega (arith, w.1)))
follows_on a b c d x (second_of_four _ _ _ f g k n) v =
    let w = step_lives 0x80 0xBF d (trail ∷ []) v in
    subst (Follows b c d) (sym (step_in 0x80 0xBF d (trail ∷ []) w.0 w.1))
    (third_of_four b c d (omega arith) (omega arith) (omega arith) (omega (arith, w.0)) (omega (arith, w.1)))
follows_on a b c d x (third_of_four _ _ _ f g h k n) v =
    let w = step_lives 0x80 0xBF d [] v in
    subst (Follows b c d) (sym (step_in 0x80 0xBF d [] w.0 w.1)) (ended b c d (omega arith) (omega arith) (omega (arith, w.1)))

-- the three bytes ask for a byte that goes on just where a character has not ended
pub due_none : (a b c : ℕ) (x : Awaited) → Follows a b c x → due_after a b c ≡ 0 → x ≡ awaited []
due_none a b c x (ended _ _ _ f g h) e = refl
due_none a b c x (first _ _ _ l h more f g o) e = absurd (omega (arith, (opens_bounds c l h more o).0))
due_none a b c x (second_of_three _ _ _ f g h k n) e = absurd (omega arith)
due_none a b c x (second_of_four _ _ _ f g k n) e = absurd (omega arith)
due_none a b c x (third_of_four _ _ _ f g h k n) e = absurd (omega arith)

pub due_some : (a b c : ℕ) (x : Awaited) → Follows a b c x → 0 < due_after a b c → complete x ≡ false
due_some a b c x (ended _ _ _ f g h) e = absurd (omega arith)
due_some a b c x (first _ _ _ l h more f g o) e = refl
due_some a b c x (second_of_three _ _ _ f g h k n) e = refl
due_some a b c x (second_of_four _ _ _ f g k n) e = refl
due_some a b c x (third_of_four _ _ _ f g h k n) e = refl

-- and then ASCII breaks the text
pub due_ascii : (a b c d : ℕ) (x : Awaited) → Follows a b c x → 0 < due_after a b c → d < 0x80 → step x d ≡ broken
due_ascii a b c d x (ended _ _ _ f g h) e k = absurd (omega arith)
due_ascii a b c d x (first _ _ _ l h more f g o) e k = step_below l h d more (omega (arith, (opens_bounds c l h more o).2))
due_ascii a b c d x (second_of_three _ _ _ f g h k n) e m = step_below 0x80 0xBF d [] m
due_ascii a b c d x (second_of_four _ _ _ f g k n) e m = step_below 0x80 0xBF d (trail ∷ []) m
due_ascii a b c d x (third_of_four _ _ _ f g h k n) e m = step_below 0x80 0xBF d [] m

-- after ASCII a character has ended
pub after_ascii : (a b c : ℕ) (x : Awaited) → Follows a b c x → c < 0x80 → x ≡ awaited []
after_ascii a b c x (ended _ _ _ f g h) e = refl
after_ascii a b c x (first _ _ _ l h more f g o) e = absurd (omega (arith, (opens_bounds c l h more o).0))
after_ascii a b c x (second_of_three _ _ _ f g h k n) e = absurd (omega arith)
after_ascii a b c x (second_of_four _ _ _ f g k n) e = absurd (omega arith)
after_ascii a b c x (third_of_four _ _ _ f g h k n) e = absurd (omega arith)
