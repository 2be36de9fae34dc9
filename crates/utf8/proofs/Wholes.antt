-- Laws of whole characters, byte by byte. Assumes nothing.
use mathlib.Core.Path.{◌≡◌, refl, ap, sym, ◌∙◌, subst}
use mathlib.Core.Bool.{Bool, true, false}
use mathlib.Core.Logic.{◌⊎◌, inl, inr}
use mathlib.Core.List.{List, [], ◌∷◌}
use Prim.Native.Nat.{ℕ, min, max, ◌/◌, ◌+◌, ◌-◌, ◌<◌, ◌≤◌}
use native.Mathlib.Decide.{dec_lt}
use native.Mathlib.Omega.{arith}
use lib.ListN.{length, get_or}
use Rattle.std.specs.Prelude.{Option}
use Rattle.std.specs.Bool.{then_some}
use Rattle.utf8.specs.Utf8.{Range, ◌to◌, trail, Awaited, awaited, broken, begun, forms, step, run, valid}
use Rattle.utf8.specs.Windows.{reached, past, Lives, Opens, two, e0, three, ed, three_more, f0, four, f4, Whole, EndsBy, alike, due_after}
use Rattle.utf8.proofs.Following.{First, alone, opens, none_below, none_above, first_byte, opens_bounds, step_in, step_below, step_above}
use Rattle.utf8.proofs.Judging.{not_both, goes, going, small_alike, least_after, most_after, range_of, in_range}
use Rattle.utf8.proofs.Leading.{leads_two, leads_none_below, leads_none_above}
use Rattle.utf8.proofs.Running.{step_broken}
use Rattle.utf8.proofs.Reached.{reached_on, past_at, broken_invalid, cut_off}

-- a first byte
pub step_first : (a : ℕ) → step (awaited []) a ≡ begun forms a
unfolding step
step_first a = refl

-- a byte that does not go on with a character
away : (d : ℕ) → alike (d / 0x40) 2 ≡ 0 → (0x80 ≤ d → 0xBF < d)
away d e f = elim (dec_lt 0xBF d) [ yes h ↦ h | no n ↦ absurd (not_both (alike (d / 0x40) 2) e (goes d f (omega arith))) ]

-- it is in no range of the table but those of a first byte
pub off_range : (l h d : ℕ) (more : List Range) → 0x80 ≤ l → h ≤ 0xBF → alike (d / 0x40) 2 ≡ 0 → step (awaited (l to h ∷ more)) d ≡ broken
off_range l h d more f g e =
    elim (dec_lt d 0x80) [
      | yes k ↦ step_below l h d more (omega arith)
      | no n ↦ step_above l h d more (farther (away d e (omega arith)))
    ]
  where
    farther : 0xBF < d → h < d
    farther k = omega arith

-- the second byte of a character of three or four
module _ (a b : ℕ) (g : 0xE0 ≤ a) (h : a ≤ 0xF4) where
  second_out : (x : Awaited) → First a x → alike (b / 0x40) 2 ≡ 0 → step x b ≡ broken
  second_out x (alone _ f) e = absurd (omega arith)
  second_out x (opens _ l k more o) e = let w = opens_bounds a l k more o in off_range l k b more w.2 w.3 e
  second_out x (none_below _ f k) e = absurd (omega arith)
  second_out x (none_above _ f) e = absurd (omega arith)

  second_in : (x : Awaited) → First a x → 0x80 ≤ b → b ≤ 0xBF → least_after a ≤ b → b ≤ most_after a → Lives (step x b)
  second_in x (alone _ f) p q r s = absurd (omega arith)
  second_in x (opens _ l k more o) p q r s =
      let v = range_of a l k more o in
      let w = in_range l k (least_after a) (most_after a) b v.0 v.1 p q r s in
      subst Lives (sym (step_in l k b more w.0 w.1)) tt
  second_in x (none_below _ f k) p q r s = absurd (omega arith)
  second_in x (none_above _ f) p q r s = absurd (omega arith)

  second_low : (x : Awaited) → First a x → 0x80 ≤ b → b < least_after a → step x b ≡ broken
  second_low x (alone _ f) p q = absurd (omega arith)
  second_low x (opens _ l k more o) p q = let v = range_of a l k more o in step_below l k b more (lower l (least_after a) v.0 q)
    where
      lower : (l n : ℕ) → l ≡ max 0x80 n → b < n → b < l
      lower l n e q = omega arith
  second_low x (none_below _ f k) p q = absurd (omega arith)
  second_low x (none_above _ f) p q = absurd (omega arith)

  second_high : (x : Awaited) → First a x → most_after a < b → step x b ≡ broken
  second_high x (alone _ f) q = absurd (omega arith)
  second_high x (opens _ l k more o) q = let v = range_of a l k more o in step_above l k b more (higher k (most_after a) v.1 q)
    where
      higher : (k n : ℕ) → k ≡ min 0xBF n → n < b → k < b
      higher k n e q = omega arith
  second_high x (none_below _ f k) q = absurd (omega arith)
  second_high x (none_above _ f) q = absurd (omega arith)

  pub second_none : alike (b / 0x40) 2 ≡ 0 → step (begun forms a) b ≡ broken
  second_none e = second_out (begun forms a) (first_byte a) e

  pub second_lives : 0x80 ≤ b → b ≤ 0xBF → least_after a ≤ b → b ≤ most_after a → Lives (step (begun forms a) b)
  second_lives p q r s = second_in (begun forms a) (first_byte a) p q r s

  pub second_below : 0x80 ≤ b → b < least_after a → step (begun forms a) b ≡ broken
  second_below p q = second_low (begun forms a) (first_byte a) p q

  pub second_above : most_after a < b → step (begun forms a) b ≡ broken
  second_above q = second_high (begun forms a) (first_byte a) q

-- the text is broken, or these bytes are to come
abbrev pub After : List Range → Awaited → Type 0
After m x = (x ≡ broken) ⊎ (x ≡ awaited m)

module _ (x : Awaited) (d : ℕ) (m : List Range) where
  pub next : After (trail ∷ m) x → After m (step x d)
  next (inl e) = inl (ap (λ (y : Awaited). step y d) e ∙ step_broken d)
  next (inr e) =
      elim (dec_lt d 0x80) [
        | yes h ↦ inl (ap (λ (y : Awaited). step y d) e ∙ step_below 0x80 0xBF d m h)
        | no n ↦ elim (dec_lt 0xBF d) [
          | yes k ↦ inl (ap (λ (y : Awaited). step y d) e ∙ step_above 0x80 0xBF d m k)
          | no j ↦ inr (ap (λ (y : Awaited). step y d) e ∙ step_in 0x80 0xBF d m (omega arith) (omega arith))
        ]
      ]

  pub off : After (trail ∷ m) x → alike (d / 0x40) 2 ≡ 0 → step x d ≡ broken
  off (inl e) f = ap (λ (y : Awaited). step y d) e ∙ step_broken d
  off (inr e) f = ap (λ (y : Awaited). step y d) e ∙ off_range 0x80 0xBF d m (omega arith) (omega arith) f

  pub lives_on : After (trail ∷ m) x → Lives x → alike (d / 0x40) 2 ≡ 1 → step x d ≡ awaited m
  lives_on (inl e) v f = absurd (subst Lives e v)
  lives_on (inr e) v f = let w = going d f in ap (λ (y : Awaited). step y d) e ∙ step_in 0x80 0xBF d m w.0 w.1

-- after the second byte
ranged : (l h b : ℕ) (more : List Range) → After more (step (awaited (l to h ∷ more)) b)
ranged l h b more =
    elim (dec_lt b l) [
      | yes p ↦ inl (step_below l h b more p)
      | no np ↦ elim (dec_lt h b) [ yes q ↦ inl (step_above l h b more q) | no nq ↦ inr (step_in l h b more (omega arith) (omega arith)) ]
    ]

of_three : (a b l h : ℕ) (more : List Range) → Opens a l h more → 0xE0 ≤ a → a < 0xF0 → After (trail ∷ []) (step (awaited (l to h ∷ more)) b)
of_three a b l h more (two _ f g) p q = absurd (omega arith)
of_three a b l h more (e0 _ f) p q = ranged 0xA0 0xBF b (trail ∷ [])
of_three a b l h more (three _ f g) p q = ranged 0x80 0xBF b (trail ∷ [])
of_three a b l h more (ed _ f) p q = ranged 0x80 0x9F b (trail ∷ [])
of_three a b l h more (three_more _ f g) p q = ranged 0x80 0xBF b (trail ∷ [])
of_three a b l h more (f0 _ f) p q = absurd (omega arith)
of_three a b l h more (four _ f g) p q = absurd (omega arith)
of_three a b l h more (f4 _ f) p q = absurd (omega arith)

of_four : (a b l h : ℕ) (more : List Range) → Opens a l h more → 0xF0 ≤ a → After (trail ∷ trail ∷ []) (step (awaited (l to h ∷ more)) b)
of_four a b l h more (two _ f g) p = absurd (omega arith)
of_four a b l h more (e0 _ f) p = absurd (omega arith)
of_four a b l h more (three _ f g) p = absurd (omega arith)
of_four a b l h more (ed _ f) p = absurd (omega arith)
of_four a b l h more (three_more _ f g) p = absurd (omega arith)
of_four a b l h more (f0 _ f) p = ranged 0x90 0xBF b (trail ∷ trail ∷ [])
of_four a b l h more (four _ f g) p = ranged 0x80 0xBF b (trail ∷ trail ∷ [])
of_four a b l h more (f4 _ f) p = ranged 0x80 0x8F b (trail ∷ trail ∷ [])

second_of_three : (a b : ℕ) (x : Awaited) → First a x → 0xE0 ≤ a → a < 0xF0 → After (trail ∷ []) (step x b)
second_of_three a b x (alone _ f) p q = absurd (omega arith)
second_of_three a b x (opens _ l h more o) p q = of_three a b l h more o p q
second_of_three a b x (none_below _ f g) p q = inl (step_broken b)
second_of_three a b x (none_above _ f) p q = inl (step_broken b)

second_of_four : (a b : ℕ) (x : Awaited) → First a x → 0xF0 ≤ a → After (trail ∷ trail ∷ []) (step x b)
second_of_four a b x (alone _ f) p = absurd (omega arith)
second_of_four a b x (opens _ l h more o) p = of_four a b l h more o p
second_of_four a b x (none_below _ f g) p = inl (step_broken b)
second_of_four a b x (none_above _ f) p = inl (step_broken b)

pub after_three : (a b : ℕ) → 0xE0 ≤ a → a < 0xF0 → After (trail ∷ []) (step (begun forms a) b)
after_three a b p q = second_of_three a b (begun forms a) (first_byte a) p q

pub after_four : (a b : ℕ) → 0xF0 ≤ a → After (trail ∷ trail ∷ []) (step (begun forms a) b)
after_four a b p = second_of_four a b (begun forms a) (first_byte a) p

-- a text that ends before a character does
module _ (s : List ℕ) (i : ℕ) where
  due_by_c : (a b c : ℕ) → 0xC0 ≤ c → 0 < due_after a b c
  due_by_c a b c h = omega arith

  due_by_b : (a b c : ℕ) → 0xE0 ≤ b → 0 < due_after a b c
  due_by_b a b c h = omega arith

  due_by_a : (a b c : ℕ) → 0xF0 ≤ a → 0 < due_after a b c
  due_by_a a b c h = omega arith

  pub cut_one : length s ≡ i + 1 → 0xC0 ≤ get_or s i 0 → valid s ≡ false
  cut_one e h =
      let z : length s + 2 ≡ i + 3 = omega arith in
      cut_off s (due_by_c _ _ _ (subst (λ (b : ℕ). 0xC0 ≤ b) (sym (ap (past s) z ∙ past_at s i)) h))

  pub cut_two : length s ≡ i + 2 → 0xE0 ≤ get_or s i 0 → valid s ≡ false
  cut_two e h =
      let z : length s + 1 ≡ i + 3 = omega arith in
      cut_off s (due_by_b _ _ _ (subst (λ (b : ℕ). 0xE0 ≤ b) (sym (ap (past s) z ∙ past_at s i)) h))

  pub cut_three : length s ≡ i + 3 → 0xF0 ≤ get_or s i 0 → valid s ≡ false
  cut_three e h =
      let z : length s ≡ i + 3 = e in
      cut_off s (due_by_a _ _ _ (subst (λ (b : ℕ). 0xF0 ≤ b) (sym (ap (past s) z ∙ past_at s i)) h))

  -- a byte that begins nothing
  pub begins_none : i < length s → reached s i ≡ awaited [] → 0x80 ≤ get_or s i 0 → get_or s i 0 < 0xC2 → valid s ≡ false
  begins_none h e f g =
      broken_invalid s (i + 1)
      (reached_on s i h ∙ ap (λ (x : Awaited). step x (get_or s i 0)) e ∙ step_first (get_or s i 0) ∙ leads_none_below (get_or s i 0) f g)

  -- two, three and four bytes on
  pub reached_two : i + 2 ≤ length s → reached s i ≡ awaited [] → reached s (i + 2) ≡ run (awaited []) (get_or s i 0 ∷ get_or s (i + 1) 0 ∷ [])
  reached_two h e =
      let z : i + 2 ≡ (i + 1) + 1 = omega arith in
      ap (reached s) z
      ∙ reached_on s (i + 1) (omega arith)
      ∙ ap (λ (x : Awaited). step x (get_or s (i + 1) 0)) (reached_on s i (omega arith) ∙ ap (λ (x : Awaited). step x (get_or s i 0)) e)

  pub reached_three : i + 3 ≤ length s → reached s i ≡ awaited []
      → reached s (i + 3) ≡ run (awaited []) (get_or s i 0 ∷ get_or s (i + 1) 0 ∷ get_or s (i + 2) 0 ∷ [])
  reached_three h e =
      let z : i + 3 ≡ (i + 2) + 1 = omega arith in
      ap (reached s) z
      ∙ reached_on s (i + 2) (omega arith)
      ∙ ap (λ (x : Awaited). step x (get_or s (i + 2) 0)) (reached_two (omega arith) e)

  pub reached_four : i + 4 ≤ length s → reached s i ≡ awaited []
      → reached s (i + 4) ≡ run (awaited []) (get_or s i 0 ∷ get_or s (i + 1) 0 ∷ get_or s (i + 2) 0 ∷ get_or s (i + 3) 0 ∷ [])
  reached_four h e =
      let z : i + 4 ≡ (i + 3) + 1 = omega arith in
      ap (reached s) z
      ∙ reached_on s (i + 3) (omega arith)
      ∙ ap (λ (x : Awaited). step x (get_or s (i + 3) 0)) (reached_three (omega arith) e)

  -- what the n bytes t from i on are tells where a character ends
  module _ (n : ℕ) (t : List ℕ) (h : i + n ≤ length s) (e : reached s (i + n) ≡ run (awaited []) t) where
    by_some : (w : Bool) → Whole t w → 0 < n → EndsBy s (i + 1) (then_some w (i + n))
    by_some true w g = (omega arith, h, e ∙ w)
    by_some false w g = broken_invalid s (i + n) (e ∙ w)

    pub taken : (o : Option ℕ) (w : Bool) → Whole t w → o ≡ then_some w (i + n) → 0 < n → EndsBy s (i + 1) o
    taken o w v q g = subst (EndsBy s (i + 1)) (sym q) (by_some w v g)

-- too few bytes are left for the character that a byte begins
module _ (s : List ℕ) (i : ℕ) (h : i < length s) where
  pub short_of_two : reached s i ≡ awaited [] → 0x80 ≤ get_or s i 0 → length s - i < 2 → valid s ≡ false
  short_of_two e f g =
      elim (dec_lt (get_or s i 0) 0xC2) [ yes k ↦ begins_none s i h e f k | no n ↦ cut_one s i (omega arith) (omega arith) ]

  pub short_of_three : 0xE0 ≤ get_or s i 0 → length s - i < 3 → valid s ≡ false
  short_of_three f g =
      elim (dec_lt (length s) (i + 2)) [ yes k ↦ cut_one s i (omega arith) (omega arith) | no n ↦ cut_two s i (omega arith) f ]

  pub short_of_four : 0xF0 ≤ get_or s i 0 → length s - i < 4 → valid s ≡ false
  short_of_four f g =
      elim (dec_lt (length s) (i + 3)) [ yes k ↦ short_of_three (omega arith) (omega arith) | no n ↦ cut_three s i (omega arith) f ]

-- a number that is 0 or 1, and not 0
pub one_or_none : (d r : ℕ) → r ≡ alike (d / 0x40) 2 → (r ≡ 0 → ⊥) → alike (d / 0x40) 2 ≡ 1
one_or_none d r e n = sym e ∙ one r (small_alike (d / 0x40) 2 r e) n
  where
    one : (r : ℕ) → r ≤ 1 → (r ≡ 0 → ⊥) → r ≡ 1
    one r h n = omega arith

-- a number that is 0 or 1, and not 1
pub none_or_one : (d r : ℕ) → r ≡ alike (d / 0x40) 2 → (r ≡ 1 → ⊥) → alike (d / 0x40) 2 ≡ 0
none_or_one d r e n = sym e ∙ none r (small_alike (d / 0x40) 2 r e) n
  where
    none : (r : ℕ) → r ≤ 1 → (r ≡ 1 → ⊥) → r ≡ 0
    none r h n = omega arith

-- two, three and four bytes of which the first begins a character of so many
module _ (a b : ℕ) where
  -- the second byte, after the first
  second : step (step (awaited []) a) b ≡ step (begun forms a) b
  second = ap (λ (x : Awaited). step x b) (step_first a)

  pub two_whole : 0xC2 ≤ a → a < 0xE0 → alike (b / 0x40) 2 ≡ 1 → run (awaited []) (a ∷ b ∷ []) ≡ awaited []
  two_whole h g e = let w = going b e in ap (λ (x : Awaited). step x b) (step_first a ∙ leads_two a h (omega arith)) ∙ step_in 0x80 0xBF b [] w.0 w.1

  pub two_low : 0x80 ≤ a → a < 0xC2 → run (awaited []) (a ∷ b ∷ []) ≡ broken
  two_low h g = ap (λ (x : Awaited). step x b) (step_first a ∙ leads_none_below a h g) ∙ step_broken b

  pub two_off : 0xC2 ≤ a → a < 0xE0 → alike (b / 0x40) 2 ≡ 0 → run (awaited []) (a ∷ b ∷ []) ≡ broken
  two_off h g e = ap (λ (x : Awaited). step x b) (step_first a ∙ leads_two a h (omega arith)) ∙ off_range 0x80 0xBF b [] (omega arith) (omega arith) e

  module _ (c : ℕ) where
    second_breaks : step (begun forms a) b ≡ broken → step (step (step (awaited []) a) b) c ≡ broken
    second_breaks e = ap (λ (x : Awaited). step x c) (second ∙ e) ∙ step_broken c

    module _ (h : 0xE0 ≤ a) (g : a < 0xF0) where
      pub three_whole : Lives (step (begun forms a) b) → alike (c / 0x40) 2 ≡ 1 → run (awaited []) (a ∷ b ∷ c ∷ []) ≡ awaited []
      three_whole v e = ap (λ (x : Awaited). step x c) second ∙ lives_on _ c [] (after_three a b h g) v e

      pub three_off : alike (c / 0x40) 2 ≡ 0 → run (awaited []) (a ∷ b ∷ c ∷ []) ≡ broken
      three_off e = ap (λ (x : Awaited). step x c) second ∙ off _ c [] (after_three a b h g) e

      pub three_second : step (begun forms a) b ≡ broken → run (awaited []) (a ∷ b ∷ c ∷ []) ≡ broken
      three_second e = second_breaks e

    module _ (d : ℕ) (h : 0xF0 ≤ a) where
      third_breaks : step (step (step (awaited []) a) b) c ≡ broken → run (awaited []) (a ∷ b ∷ c ∷ d ∷ []) ≡ broken
      third_breaks e = ap (λ (x : Awaited). step x d) e ∙ step_broken d

      pub four_whole : Lives (step (begun forms a) b) → alike (c / 0x40) 2 ≡ 1 → alike (d / 0x40) 2 ≡ 1 → run (awaited []) (a ∷ b ∷ c ∷ d ∷ []) ≡ awaited []
      four_whole v e f =
          let third = lives_on _ c (trail ∷ []) (after_four a b h) v e in
          ap (λ (x : Awaited). step (step x c) d) second ∙ lives_on _ d [] (inr third) (subst Lives (sym third) tt) f

      pub four_high : 0xF4 < a → run (awaited []) (a ∷ b ∷ c ∷ d ∷ []) ≡ broken
      four_high g = third_breaks (second_breaks (ap (λ (x : Awaited). step x b) (leads_none_above a g) ∙ step_broken b))

      pub four_off : alike (d / 0x40) 2 ≡ 0 → run (awaited []) (a ∷ b ∷ c ∷ d ∷ []) ≡ broken
      four_off e = ap (λ (x : Awaited). step (step x c) d) second ∙ off _ d [] (next _ c (trail ∷ []) (after_four a b h)) e

      pub four_third : alike (c / 0x40) 2 ≡ 0 → run (awaited []) (a ∷ b ∷ c ∷ d ∷ []) ≡ broken
      four_third e = third_breaks (ap (λ (x : Awaited). step x c) second ∙ off _ c (trail ∷ []) (after_four a b h) e)

      pub four_second : step (begun forms a) b ≡ broken → run (awaited []) (a ∷ b ∷ c ∷ d ∷ []) ≡ broken
      four_second e = third_breaks (second_breaks e)

-- a text that is too short for a character
pub short : (s : List ℕ) (i e : ℕ) (w : Bool) (o : Option ℕ) → w ≡ false → o ≡ then_some w e → valid s ≡ false → EndsBy s i o
short s i e w o f q v = subst (EndsBy s i) (sym (q ∙ ap (λ (t : Bool). then_some t e) f)) v

-- what both outcomes of a test say
pub whole_by : (t : List ℕ) (w : Bool) → (w ≡ true → run (awaited []) t ≡ awaited []) → (w ≡ false → run (awaited []) t ≡ broken) → Whole t w
whole_by t true f g = f refl
whole_by t false f g = g refl

pub not_so : false ≡ true → ⊥
not_so e = subst So (sym e) tt
  where
    So : Bool → Type 0
    So true = Unit {0}
    So false = ⊥
