-- The wide characters, one by one: the run over the bytes of a character counts it where it is wide, whatever came before. Assumes nothing.
use Prim.Native.Nat.{ℕ, suc, ◌+◌, ◌-◌, ◌/◌, ◌%◌, ◌≤◌, ◌<◌}
use mathlib.Core.Path.{◌≡◌, ap, sym, ◌∙◌}
use mathlib.Core.Bool.{Bool}
use mathlib.Core.List.{List, [], ◌∷◌, ◌++◌}
use native.Mathlib.Nat.{add-zero}
use native.Mathlib.Omega.{arith}
use native.Mathlib.Decide.{dec_lt}
use borrow.Author.Tests.{lt-ltb, le-ltb}
use Rattle.buffer.specs.Bytes.{character, onward}
use Rattle.characters.specs.Characters.{begins, chars, one_if}
use Rattle.characters.proofs.Counting.{begins_below, begins_above, begins_trail, chars_append}
use Rattle.points.specs.Decoding.{size_of, with_six}
use Rattle.points.proofs.Decoded.{size_two, size_three, size_four, point_two, point_three, point_four, decoded_two, decoded_three, decoded_four}
use Rattle.widths.specs.declared.Rule.{Rule}
use Rattle.widths.specs.declared.Wides.{Wides}
use Rattle.widths.specs.Widths.{is_wide, leading, none_begun, gone_on, advanced, ran, places, count}
use Rattle.widths.proofs.Running.{leading_two, leading_three, leading_four, advanced_trail, advanced_above, advanced_ascii, ran_append, ran_raised, raised}
use Rattle.widths.proofs.Stretches.{narrow}

-- a character has begun: so many bytes are awaited, x are its bits so far
abbrev awaiting : ℕ → ℕ → ℕ → Wides
awaiting n x k = record { pending = record { awaited = n; bits = x }; wide = k }

begin : (a n x : ℕ) → 0xBF < a → size_of a ≡ suc n → leading a ≡ x → (w : Wides) → advanced w a ≡ awaiting n x w.wide
begin a n x h e f w =
    let z : size_of a - 1 ≡ n = omega (arith, e) in
    advanced_above w a h ∙ (λ i. awaiting (z i) (f i) w.wide)

go_on : (b n x k : ℕ) → advanced (awaiting (suc (suc n)) x k) (onward b) ≡ awaiting (suc n) (with_six x (onward b)) k
unfolding gone_on
go_on b n x k = advanced_trail (awaiting (suc (suc n)) x k) (onward b) (omega arith) (omega arith)

last : (b x k : ℕ) → advanced (awaiting 1 x k) (onward b) ≡ none_begun (k + one_if (is_wide (with_six x (onward b))))
unfolding gone_on
last b x k = advanced_trail (awaiting 1 x k) (onward b) (omega arith) (omega arith)

module _ (n : ℕ) (w : Wides) where
  counted : ℕ → Wides
  counted x = none_begun (w.wide + one_if (is_wide x))

  one : n < 0x80 → ran w (n ∷ []) ≡ counted n
  unfolding ran counted
  one h = advanced_ascii w n h ∙ ap none_begun (sym (add-zero w.wide) ∙ ap (λ (b : Bool). w.wide + one_if b) (sym (narrow n (omega (arith, h)))))

  two : 0x80 ≤ n → n < 0x800 → ran w ((0xC0 + n / 0x40) ∷ onward n ∷ []) ≡ counted n
  unfolding ran counted
  two g h =
      let a = 0xC0 + n / 0x40 in
      let f : a < 0xE0 = omega (arith, h) in
      ap (λ (v : Wides). advanced v (onward n)) (begin a 1 (a % 0x20) (omega arith) (size_two a (omega arith) f) (leading_two a (omega arith) f) w)
      ∙ last n (a % 0x20) w.wide
      ∙ ap counted (sym (point_two a (onward n) 0 0 (omega arith) f) ∙ decoded_two n 0 0 g h)

  three : 0x800 ≤ n → n < 0x10000 → ran w ((0xE0 + n / 0x1000) ∷ onward (n / 0x40) ∷ onward n ∷ []) ≡ counted n
  unfolding ran counted
  three g h =
      let a = 0xE0 + n / 0x1000 in
      let b = n / 0x40 in
      let f : a < 0xF0 = omega (arith, h) in
      ap (λ (v : Wides). advanced (advanced v (onward b)) (onward n)) (begin a 2 (a % 0x10) (omega arith) (size_three a (omega arith) f) (leading_three a (omega arith) f) w)
      ∙ ap (λ (v : Wides). advanced v (onward n)) (go_on b 0 (a % 0x10) w.wide)
      ∙ last n (with_six (a % 0x10) (onward b)) w.wide
      ∙ ap counted (sym (point_three a (onward b) (onward n) 0 (omega arith) f) ∙ decoded_three n 0 0 g h)

  four : 0x10000 ≤ n → n < 0x110000 → ran w ((0xF0 + n / 0x40000) ∷ onward (n / 0x1000) ∷ onward (n / 0x40) ∷ onward n ∷ []) ≡ counted n
  unfolding ran counted
  four g h =
      let a = 0xF0 + n / 0x40000 in
      let b = n / 0x1000 in
      let d = n / 0x40 in
      ap (λ (v : Wides). advanced (advanced (advanced v (onward b)) (onward d)) (onward n)) (begin a 3 (a % 8) (omega arith) (size_four a (omega arith)) (leading_four a (omega arith)) w)
      ∙ ap (λ (v : Wides). advanced (advanced v (onward d)) (onward n)) (go_on b 1 (a % 8) w.wide)
      ∙ ap (λ (v : Wides). advanced v (onward n)) (go_on d 0 (with_six (a % 8) (onward b)) w.wide)
      ∙ last n (with_six (with_six (a % 8) (onward b)) (onward d)) w.wide
      ∙ ap counted (sym (point_four a (onward b) (onward d) (onward n) (omega arith)) ∙ decoded_four n 0 0 g h)

trail_none : (b : ℕ) → begins (onward b) ≡ 0
trail_none b = begins_trail (onward b) (omega arith) (omega arith)

-- how a character is written, by its size: what P says of the four ways it says of the character
module _ (P : List ℕ → Type 0) (n : ℕ) (h : n < 0x110000)
    (one : n < 0x80 → P (n ∷ []))
    (two : 0x80 ≤ n → n < 0x800 → P ((0xC0 + n / 0x40) ∷ onward n ∷ []))
    (three : 0x800 ≤ n → n < 0x10000 → P ((0xE0 + n / 0x1000) ∷ onward (n / 0x40) ∷ onward n ∷ []))
    (four : 0x10000 ≤ n → n < 0x110000 → P ((0xF0 + n / 0x40000) ∷ onward (n / 0x1000) ∷ onward (n / 0x40) ∷ onward n ∷ [])) where
  written : P (character n)
  written =
      elim (dec_lt n 0x80) [
        | yes f ↦ rw (lt-ltb n 0x80 f, character) (one f)
        | no nf ↦ elim (dec_lt n 0x800) [
          | yes g ↦ rw (le-ltb n 0x80 (omega arith), lt-ltb n 0x800 g, character) (two (omega arith) g)
          | no ng ↦ elim (dec_lt n 0x10000) [
            | yes k ↦ rw (le-ltb n 0x80 (omega arith), le-ltb n 0x800 (omega arith), lt-ltb n 0x10000 k, character) (three (omega arith) k)
            | no nk ↦ rw (le-ltb n 0x80 (omega arith), le-ltb n 0x800 (omega arith), le-ltb n 0x10000 (omega arith), character) (four (omega arith) h)
          ]
        ]
      ]

module _ (n : ℕ) (h : n < 0x110000) where
  -- the run over a character
  pub ran_character : (w : Wides) → ran w (character n) ≡ none_begun (w.wide + one_if (is_wide n))
  unfolding counted
  ran_character w = written (λ (s : List ℕ). ran w s ≡ none_begun (w.wide + one_if (is_wide n))) n h (one n w) (two n w) (three n w) (four n w)

  chars_character : chars (character n) ≡ 1
  chars_character =
      written (λ (s : List ℕ). chars s ≡ 1) n h
      (λ f. omega (arith, begins_below n f))
      (λ g f. omega (arith, begins_above (0xC0 + n / 0x40) (omega arith), trail_none n))
      (λ g f. omega (arith, begins_above (0xE0 + n / 0x1000) (omega arith), trail_none (n / 0x40), trail_none n))
      (λ g f. omega (arith, begins_above (0xF0 + n / 0x40000) (omega arith), trail_none (n / 0x1000), trail_none (n / 0x40), trail_none n))

  pub one_character : count Rule.Characters (character n) ≡ 1
  unfolding count
  one_character = chars_character

  pub places_character : count Rule.Places (character n) ≡ 1 + one_if (is_wide n)
  unfolding count places
  places_character = omega (arith, chars_character, ap (λ (w : Wides). w.wide) (ran_character (none_begun 0)))

  -- whatever follows it
  pub count_behind : (r : Rule) (t : List ℕ) → count r (character n ++ t) ≡ count r (character n) + count r t
  unfolding count places
  count_behind Rule.Characters t = chars_append (character n) t
  count_behind Rule.Places t =
      let k = one_if (is_wide n) in
      let e : ran (none_begun 0) (character n ++ t) ≡ ran (none_begun (0 + k)) t = ran_append (none_begun 0) (character n) t ∙ ap (λ (w : Wides). ran w t) (ran_character (none_begun 0)) in
      let f : ran (none_begun (k + 0)) t ≡ raised k (ran (none_begun 0) t) = ran_raised k t (none_begun 0) in
      let z : 0 + k ≡ k + 0 = omega arith in
      omega (
        arith,
        chars_append (character n) t,
        ap (λ (w : Wides). w.wide) (e ∙ ap (λ (j : ℕ). ran (none_begun j) t) z ∙ f),
        ap (λ (w : Wides). w.wide) (ran_character (none_begun 0)),
      )
