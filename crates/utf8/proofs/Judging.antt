-- What the numbers of `windows::flaw` say: 0 just where a byte does not break the text. Assumes nothing.
use mathlib.Core.Path.{◌≡◌, refl, ap, sym, ◌∙◌, subst}
use mathlib.Core.List.{List, [], ◌∷◌}
use Prim.Native.Nat.{ℕ, min, max, ◌+◌, ◌-◌, ◌*◌, ◌/◌, ◌<◌, ◌≤◌}
use native.Mathlib.Decide.{dec_lt}
use native.Mathlib.Omega.{arith}
use Rattle.utf8.specs.Utf8.{Range, ◌to◌, trail, Awaited, awaited, broken, begun, forms, step}
use Rattle.utf8.specs.Windows.{Lives, Opens, two, e0, three, ed, three_more, f0, four, f4, Follows, ended, first, second_of_three, second_of_four, third_of_four, Judged, alike, less, due_after}
use Rattle.utf8.proofs.Following.{First, alone, opens, none_below, none_above, first_byte, opens_bounds, step_in, step_below, step_above}

-- where n bytes ask for one that goes on, and what comes lies from `least` to `most`
abbrev pub flaw_by : ℕ → ℕ → ℕ → ℕ → ℕ
flaw_by n least most d = (1 - alike n (alike (d / 0x40) 2)) + alike (d / 2) 0x60 + less d least + less most d

-- the least byte after c, and the greatest, as far as c tells
abbrev pub least_after : ℕ → ℕ
least_after c = 0xA0 * alike c 0xE0 + 0x90 * alike c 0xF0

abbrev pub most_after : ℕ → ℕ
most_after c = 0xF4 - 0x55 * alike c 0xED - 0x65 * alike c 0xF4

-- numbers
positive : (n : ℕ) → 0 < n → n ≡ 0 → ⊥
positive n h e = omega arith

pub not_both : (n : ℕ) → n ≡ 0 → n ≡ 1 → ⊥
not_both n e f = omega arith

not_below : (x y : ℕ) → (x < y → ⊥) → y ≤ x
not_below x y h = omega arith

-- numbers that are 0 or 1
module _ (x y : ℕ) where
  alike_yes : x ≡ y → alike x y ≡ 1
  alike_yes e = omega arith

  alike_no : (x ≡ y → ⊥) → alike x y ≡ 0
  alike_no e = omega arith

  alike_one : alike x y ≡ 1 → x ≡ y
  alike_one e = omega arith

  differ_zero : 1 - alike x y ≡ 0 → x ≡ y
  differ_zero e = omega arith

  differ_none : x ≡ y → 1 - alike x y ≡ 0
  differ_none e = omega arith

  less_zero : less x y ≡ 0 → y ≤ x
  less_zero e = omega arith

  less_none : y ≤ x → less x y ≡ 0
  less_none e = omega arith

  less_yes : x < y → less x y ≡ 1
  less_yes e = omega arith

-- none of them is above 1
pub small_alike : (x y r : ℕ) → r ≡ alike x y → r ≤ 1
small_alike x y r e = omega arith

pub small_differ : (x y r : ℕ) → r ≡ 1 - alike x y → r ≤ 1
small_differ x y r e = omega arith

pub small_less : (x y r : ℕ) → r ≡ less x y → r ≤ 1
small_less x y r e = omega arith

-- equal sums
pub sums : (p q u v a b c d : ℕ) → p ≡ a → q ≡ b → u ≡ c → v ≡ d → a + b + c + d ≡ p + q + u + v
sums p q u v a b c d e f g h = omega arith

-- a sum of numbers is 0 just where each of them is
no_part : (p q u v : ℕ) → p + q + u + v ≡ 0 → (p ≡ 0) × (q ≡ 0) × (u ≡ 0) × (v ≡ 0)
no_part p q u v e = (omega arith, omega arith, omega arith, omega arith)

no_sum : (p q u v : ℕ) → p ≡ 0 → q ≡ 0 → u ≡ 0 → v ≡ 0 → p + q + u + v ≡ 0
no_sum p q u v e f g h = omega arith

-- which bytes go on with a character, and which begin an overlong form of two bytes
module _ (d : ℕ) where
  pub goes : 0x80 ≤ d → d ≤ 0xBF → alike (d / 0x40) 2 ≡ 1
  goes f g = alike_yes (d / 0x40) 2 (omega arith)

  pub going : alike (d / 0x40) 2 ≡ 1 → (0x80 ≤ d) × (d ≤ 0xBF)
  going e = let w = alike_one (d / 0x40) 2 e in (omega (arith, w), omega (arith, w))

  stays_below : d < 0x80 → alike (d / 0x40) 2 ≡ 0
  stays_below f = alike_no (d / 0x40) 2 (λ e. omega arith)

  stays_above : 0xBF < d → alike (d / 0x40) 2 ≡ 0
  stays_above f = alike_no (d / 0x40) 2 (λ e. omega arith)

  short_below : d < 0xC0 → alike (d / 2) 0x60 ≡ 0
  short_below f = alike_no (d / 2) 0x60 (λ e. omega arith)

  short_above : 0xC1 < d → alike (d / 2) 0x60 ≡ 0
  short_above f = alike_no (d / 2) 0x60 (λ e. omega arith)

  long : 0xC0 ≤ d → d < 0xC2 → alike (d / 2) 0x60 ≡ 1
  long f g = alike_yes (d / 2) 0x60 (omega arith)

-- a byte that goes on is asked for: it lies in the range
module _ (n least most d : ℕ) where
  asked_in : n ≡ 1 → flaw_by n least most d ≡ 0 → (0x80 ≤ d) × (d ≤ 0xBF) × (least ≤ d) × (d ≤ most)
  asked_in e f =
      let w = no_part (1 - alike n (alike (d / 0x40) 2)) (alike (d / 2) 0x60) (less d least) (less most d) f in
      let g = going d (sym (differ_zero n (alike (d / 0x40) 2) w.0) ∙ e) in
      (g.0, g.1, less_zero d least w.2, less_zero most d w.3)

  asked_fits : n ≡ 1 → 0x80 ≤ d → d ≤ 0xBF → least ≤ d → d ≤ most → flaw_by n least most d ≡ 0
  asked_fits e f g p q =
      no_sum (1 - alike n (alike (d / 0x40) 2)) (alike (d / 2) 0x60) (less d least) (less most d)
      (differ_none n (alike (d / 0x40) 2) (e ∙ sym (goes d f g)))
      (short_below d (omega arith))
      (less_none d least p)
      (less_none most d q)

-- none is: the byte is ASCII or begins a character
module _ (n d : ℕ) where
  unasked_fits : n ≡ 0 → alike (d / 0x40) 2 ≡ 0 → alike (d / 2) 0x60 ≡ 0 → d ≤ 0xF4 → flaw_by n 0 0xF4 d ≡ 0
  unasked_fits e f g h =
      no_sum (1 - alike n (alike (d / 0x40) 2)) (alike (d / 2) 0x60) (less d 0) (less 0xF4 d)
      (differ_none n (alike (d / 0x40) 2) (e ∙ sym f))
      g
      (less_none d 0 (omega arith))
      (less_none 0xF4 d h)

  unasked_below : n ≡ 0 → 0x80 ≤ d → d < 0xC2 → flaw_by n 0 0xF4 d ≡ 0 → ⊥
  unasked_below e f h z =
      let w = no_part (1 - alike n (alike (d / 0x40) 2)) (alike (d / 2) 0x60) (less d 0) (less 0xF4 d) z in
      elim (dec_lt d 0xC0) [
        | yes k ↦ not_both n e (differ_zero n (alike (d / 0x40) 2) w.0 ∙ goes d f (omega arith))
        | no nk ↦ not_both (alike (d / 2) 0x60) w.1 (long d (omega arith) h)
      ]

  unasked_above : n ≡ 0 → 0xF4 < d → flaw_by n 0 0xF4 d ≡ 0 → ⊥
  unasked_above e f z =
      let w = no_part (1 - alike n (alike (d / 0x40) 2)) (alike (d / 2) 0x60) (less d 0) (less 0xF4 d) z in
      let k = less_zero 0xF4 d w.3 in
      absurd (omega arith)

-- the numbers of a first byte
module _ (c : ℕ) where
  least_is : (x y : ℕ) → alike c 0xE0 ≡ x → alike c 0xF0 ≡ y → least_after c ≡ 0xA0 * x + 0x90 * y
  least_is x y e f = rw (e, f)

  most_is : (x y : ℕ) → alike c 0xED ≡ x → alike c 0xF4 ≡ y → most_after c ≡ 0xF4 - 0x55 * x - 0x65 * y
  most_is x y e f = rw (e, f)

  least_plain : (c ≡ 0xE0 → ⊥) → (c ≡ 0xF0 → ⊥) → least_after c ≡ 0
  least_plain f g = least_is 0 0 (alike_no c 0xE0 f) (alike_no c 0xF0 g)

  most_plain : (c ≡ 0xED → ⊥) → (c ≡ 0xF4 → ⊥) → most_after c ≡ 0xF4
  most_plain f g = most_is 0 0 (alike_no c 0xED f) (alike_no c 0xF4 g)

  least_e0 : c ≡ 0xE0 → least_after c ≡ 0xA0
  least_e0 e = least_is 1 0 (alike_yes c 0xE0 e) (alike_no c 0xF0 (λ f. omega arith))

  least_f0 : c ≡ 0xF0 → least_after c ≡ 0x90
  least_f0 e = least_is 0 1 (alike_no c 0xE0 (λ f. omega arith)) (alike_yes c 0xF0 e)

  most_ed : c ≡ 0xED → most_after c ≡ 0x9F
  most_ed e = most_is 1 0 (alike_yes c 0xED e) (alike_no c 0xF4 (λ f. omega arith))

  most_f4 : c ≡ 0xF4 → most_after c ≡ 0x8F
  most_f4 e = most_is 0 1 (alike_no c 0xED (λ f. omega arith)) (alike_yes c 0xF4 e)

-- the range l to h is what the numbers say
abbrev pub Ranged : ℕ → ℕ → ℕ → Type 0
Ranged c l h = (l ≡ max 0x80 (least_after c)) × (h ≡ min 0xBF (most_after c))

ranges : (c l h x y : ℕ) → least_after c ≡ x → most_after c ≡ y → l ≡ max 0x80 x → h ≡ min 0xBF y → Ranged c l h
ranges c l h x y e f p q = (p ∙ ap (max 0x80) (sym e), q ∙ ap (min 0xBF) (sym f))

plain_range : (c : ℕ) → (c ≡ 0xE0 → ⊥) → (c ≡ 0xF0 → ⊥) → (c ≡ 0xED → ⊥) → (c ≡ 0xF4 → ⊥) → Ranged c 0x80 0xBF
plain_range c e f g h = ranges c 0x80 0xBF 0 0xF4 (least_plain c e f) (most_plain c g h) refl refl

pub range_of : (c l h : ℕ) (more : List Range) → Opens c l h more → Ranged c l h
range_of c l h more (two _ f g) = plain_range c (λ e. omega arith) (λ e. omega arith) (λ e. omega arith) (λ e. omega arith)
range_of c l h more (e0 _ f) =
    ranges c 0xA0 0xBF 0xA0 0xF4 (least_e0 c f) (most_plain c (λ e. omega arith) (λ e. omega arith)) refl refl
range_of c l h more (three _ f g) = plain_range c (λ e. omega arith) (λ e. omega arith) (λ e. omega arith) (λ e. omega arith)
range_of c l h more (ed _ f) =
    ranges c 0x80 0x9F 0 0x9F (least_plain c (λ e. omega arith) (λ e. omega arith)) (most_ed c f) refl refl
range_of c l h more (three_more _ f g) = plain_range c (λ e. omega arith) (λ e. omega arith) (λ e. omega arith) (λ e. omega arith)
range_of c l h more (f0 _ f) =
    ranges c 0x90 0xBF 0x90 0xF4 (least_f0 c f) (most_plain c (λ e. omega arith) (λ e. omega arith)) refl refl
range_of c l h more (four _ f g) = plain_range c (λ e. omega arith) (λ e. omega arith) (λ e. omega arith) (λ e. omega arith)
range_of c l h more (f4 _ f) =
    ranges c 0x80 0x8F 0 0x8F (least_plain c (λ e. omega arith) (λ e. omega arith)) (most_f4 c f) refl refl

trail_range : (c : ℕ) → c < 0xC0 → Ranged c 0x80 0xBF
trail_range c h = plain_range c (λ e. omega arith) (λ e. omega arith) (λ e. omega arith) (λ e. omega arith)

-- a place in a range as the numbers give it
pub in_range : (l h x y d : ℕ) → l ≡ max 0x80 x → h ≡ min 0xBF y → 0x80 ≤ d → d ≤ 0xBF → x ≤ d → d ≤ y → (l ≤ d) × (d ≤ h)
in_range l h x y d e f p q u v = (omega arith, omega arith)

of_range : (l h x y d : ℕ) → l ≡ max 0x80 x → h ≡ min 0xBF y → l ≤ d → d ≤ h → (0x80 ≤ d) × (d ≤ 0xBF) × (x ≤ d) × (d ≤ y)
of_range l h x y d e f p q = (omega arith, omega arith, omega arith, omega arith)

-- the judgement where a range comes next
ranged : (n c l h d : ℕ) (more : List Range) → n ≡ 1 → Ranged c l h
    → Judged (flaw_by n (least_after c) (most_after c) d) (step (awaited (l to h ∷ more)) d)
ranged n c l h d more e r = (fine, flawed)
  where
    fine : flaw_by n (least_after c) (most_after c) d ≡ 0 → Lives (step (awaited (l to h ∷ more)) d)
    fine z =
        let w = asked_in n (least_after c) (most_after c) d e z in
        let v = in_range l h (least_after c) (most_after c) d r.0 r.1 w.0 w.1 w.2 w.3 in
        subst Lives (sym (step_in l h d more v.0 v.1)) tt

    fits : l ≤ d → d ≤ h → flaw_by n (least_after c) (most_after c) d ≡ 0
    fits p q =
        let w = of_range l h (least_after c) (most_after c) d r.0 r.1 p q in
        asked_fits n (least_after c) (most_after c) d e w.0 w.1 w.2 w.3

    flawed : 0 < flaw_by n (least_after c) (most_after c) d → step (awaited (l to h ∷ more)) d ≡ broken
    flawed z =
        elim (dec_lt d l) [
          | yes p ↦ step_below l h d more p
          | no np ↦ elim (dec_lt h d) [
            | yes q ↦ step_above l h d more q
            | no nq ↦ absurd (positive _ z (fits (not_below d l np) (not_below h d nq)))
          ]
        ]

-- the judgement where a character has ended
started : (n d : ℕ) (x : Awaited) → n ≡ 0 → First d x → Judged (flaw_by n 0 0xF4 d) x
started n d x e (alone _ f) =
    (λ z. tt, λ z. absurd (positive _ z (unasked_fits n d e (stays_below d f) (short_below d (omega arith)) (omega arith))))
started n d x e (opens _ l h more o) =
    let w = opens_bounds d l h more o in
    let f : 0xBF < d = omega (arith, w.0) in
    let g : 0xC1 < d = omega (arith, w.0) in
    (λ z. tt, λ z. absurd (positive _ z (unasked_fits n d e (stays_above d f) (short_above d g) w.1)))
started n d x e (none_below _ f g) = (λ z. absurd (unasked_below n d e f g z), λ z. refl)
started n d x e (none_above _ f) = (λ z. absurd (unasked_above n d e f z), λ z. refl)

-- how many of the three bytes ask for one that goes on
module _ (a b c : ℕ) where
  due_by : (x y z : ℕ) → less 0xEF a ≡ x → less 0xDF b ≡ y → less 0xBF c ≡ z → due_after a b c ≡ x + y + z
  due_by x y z e f g = rw (e, f, g)

  pub due_0 : a < 0xF0 → b < 0xE0 → c < 0xC0 → due_after a b c ≡ 0
  due_0 f g h = due_by 0 0 0 (less_none 0xEF a (omega arith)) (less_none 0xDF b (omega arith)) (less_none 0xBF c (omega arith))

  pub due_c : a < 0xF0 → b < 0xE0 → 0xC0 ≤ c → due_after a b c ≡ 1
  due_c f g h = due_by 0 0 1 (less_none 0xEF a (omega arith)) (less_none 0xDF b (omega arith)) (less_yes 0xBF c (omega arith))

  pub due_b : a < 0xF0 → 0xE0 ≤ b → c < 0xC0 → due_after a b c ≡ 1
  due_b f g h = due_by 0 1 0 (less_none 0xEF a (omega arith)) (less_yes 0xDF b (omega arith)) (less_none 0xBF c (omega arith))

  pub due_a : 0xF0 ≤ a → b < 0xE0 → c < 0xC0 → due_after a b c ≡ 1
  due_a f g h = due_by 1 0 0 (less_yes 0xEF a (omega arith)) (less_none 0xDF b (omega arith)) (less_none 0xBF c (omega arith))

-- after three bytes that tell what is to come
pub judged : (a b c d : ℕ) (x : Awaited) → Follows a b c x → Judged (flaw_by (due_after a b c) (least_after c) (most_after c) d) (step x d)
unfolding step
judged a b c d x (ended _ _ _ f g h) =
    let p = least_plain c (λ e. omega arith) (λ e. omega arith) in
    let q = most_plain c (λ e. omega arith) (λ e. omega arith) in
    subst (λ (l : ℕ). Judged (flaw_by (due_after a b c) l (most_after c) d) (begun forms d)) (sym p)
    (subst (λ (m : ℕ). Judged (flaw_by (due_after a b c) 0 m d) (begun forms d)) (sym q)
    (started (due_after a b c) d (begun forms d) (due_0 a b c f g h) (first_byte d)))
judged a b c d x (first _ _ _ l h more f g o) =
    let w : 0xC0 ≤ c = omega (arith, (opens_bounds c l h more o).0) in
    ranged (due_after a b c) c l h d more (due_c a b c (omega arith) (omega arith) w) (range_of c l h more o)
judged a b c d x (second_of_three _ _ _ f g h k n) =
    ranged (due_after a b c) c 0x80 0xBF d [] (due_b a b c (omega arith) g n) (trail_range c n)
judged a b c d x (second_of_four _ _ _ f g k n) =
    ranged (due_after a b c) c 0x80 0xBF d (trail ∷ []) (due_b a b c (omega arith) (omega arith) n) (trail_range c n)
judged a b c d x (third_of_four _ _ _ f g h k n) =
    ranged (due_after a b c) c 0x80 0xBF d [] (due_a a b c f (omega arith) n) (trail_range c n)

-- the numbers of `flaw_of_two`, where no byte is above 0xDF
abbrev pub flaw_of_two : ℕ → ℕ → ℕ
flaw_of_two c d = (1 - alike (less 0xBF c) (alike (d / 0x40) 2)) + alike (d / 2) 0x60

two_parts : (p q x y : ℕ) → x ≡ 0 → y ≡ 0 → p + q + x + y ≡ p + q
two_parts p q x y e f = omega arith

third_alone : (n z : ℕ) → n ≡ 0 + 0 + z → n ≡ z
third_alone n z e = omega arith

pub judged_of_two : (a b c d : ℕ) (x : Awaited) → a < 0xE0 → b < 0xE0 → c < 0xE0 → d < 0xE0 → Follows a b c x
    → Judged (flaw_of_two c d) (step x d)
judged_of_two a b c d x f g h k t =
    let m = less 0xBF c in
    let e : due_after a b c ≡ m =
    third_alone (due_after a b c) m (due_by a b c 0 0 m (less_none 0xEF a (omega arith)) (less_none 0xDF b (omega arith)) refl) in
    let p = least_plain c (λ z. omega arith) (λ z. omega arith) in
    let q = most_plain c (λ z. omega arith) (λ z. omega arith) in
    let r : flaw_by (due_after a b c) (least_after c) (most_after c) d ≡ flaw_of_two c d =
    ap (λ (n : ℕ). flaw_by n (least_after c) (most_after c) d) e
    ∙ ap (λ (n : ℕ). flaw_by m n (most_after c) d) p
    ∙ ap (λ (n : ℕ). flaw_by m 0 n d) q
    ∙ two_parts (1 - alike m (alike (d / 0x40) 2)) (alike (d / 2) 0x60) (less d 0) (less 0xF4 d) (less_none d 0 (omega arith)) (less_none 0xF4 d (omega arith)) in
    subst (λ (n : ℕ). Judged n (step x d)) r (judged a b c d x t)
