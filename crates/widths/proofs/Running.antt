-- Laws of the run over a text that counts its wide characters. Assumes nothing.
use Prim.Native.Nat.{ℕ, zero, suc, ◌+◌, ◌-◌, ◌%◌, ◌<◌, ◌≤◌}
use mathlib.Core.Path.{◌≡◌, refl, ap, sym, subst, ◌∙◌}
use mathlib.Core.Bool.{Bool, true, false}
use mathlib.Core.List.{List, [], ◌∷◌, ◌++◌}
use native.Mathlib.Nat.{add_assoc}
use native.Mathlib.Omega.{arith}
use native.Mathlib.Decide.{dec_lt}
use lib.ListN.{length, drop, get_or, drop_of_length-le}
use borrow.Author.Tests.{lt-ltb, le-ltb}
use Rattle.buffer.proofs.Parts.{drop_step}
use Rattle.utf8.specs.Utf8.{within, trail}
use Rattle.utf8.proofs.Ranges.{within_in, within_below, within_above}
use Rattle.characters.specs.Characters.{begins, chars, one_if}
use Rattle.characters.proofs.Counting.{begins_most, chars_length}
use Rattle.points.specs.Decoding.{size_of, with_six}
use Rattle.points.proofs.Decoded.{size_one, size_two, size_three, size_four}
use Rattle.widths.specs.declared.Wides.{Wides}
use Rattle.widths.specs.Widths.{is_wide, leading, begun_by, none_begun, gone_on, advanced, ran}
use Rattle.widths.specs.Fitting.{FewBits, Fits}

-- ---- a first byte

module _ (b : ℕ) where
  pub leading_one : b < 0xC0 → leading b ≡ 0
  unfolding leading
  leading_one h = rw (lt-ltb b 0xC0 h, leading)

  pub leading_two : 0xC0 ≤ b → b < 0xE0 → leading b ≡ b % 0x20
  unfolding leading
  leading_two g h = rw (le-ltb b 0xC0 g, lt-ltb b 0xE0 h, leading)

  pub leading_three : 0xE0 ≤ b → b < 0xF0 → leading b ≡ b % 0x10
  unfolding leading
  leading_three g h = rw (le-ltb b 0xC0 (omega (arith, g)), le-ltb b 0xE0 g, lt-ltb b 0xF0 h, leading)

  pub leading_four : 0xF0 ≤ b → leading b ≡ b % 8
  unfolding leading
  leading_four g = rw (le-ltb b 0xC0 (omega (arith, g)), le-ltb b 0xE0 (omega (arith, g)), le-ltb b 0xF0 g, leading)

  fits_by : (n m x : ℕ) → size_of b ≡ suc m → leading b ≡ x → m ≡ n → FewBits n x → Fits (begun_by b)
  fits_by n m x e f g h =
      let z : size_of b - 1 ≡ n = omega (arith, e, g) in
      subst (λ (k : ℕ). FewBits k (leading b)) (sym z) (subst (FewBits n) (sym f) h)

  -- its bits are few
  pub fits_begun : Fits (begun_by b)
  fits_begun =
      elim (dec_lt b 0xC0) [
        | yes h ↦ fits_by 0 0 0 (size_one b h) (leading_one h) refl (omega arith)
        | no g ↦ elim (dec_lt b 0xE0) [
          | yes h ↦ fits_by 1 1 (b % 0x20) (size_two b (omega (arith, g)) h) (leading_two (omega (arith, g)) h) refl (omega arith)
          | no f ↦ elim (dec_lt b 0xF0) [
            | yes h ↦ fits_by 2 2 (b % 0x10) (size_three b (omega (arith, f)) h) (leading_three (omega (arith, f)) h) refl (omega arith)
            | no e ↦ fits_by 3 3 (b % 8) (size_four b (omega (arith, e))) (leading_four (omega (arith, e))) refl (omega arith)
          ]
        ]
      ]

  pub size_few : size_of b ≤ 4
  size_few =
      elim (dec_lt b 0xC0) [
        | yes h ↦ omega (arith, size_one b h)
        | no g ↦ elim (dec_lt b 0xE0) [
          | yes h ↦ omega (arith, size_two b (omega (arith, g)) h)
          | no f ↦ elim (dec_lt b 0xF0) [
            | yes h ↦ omega (arith, size_three b (omega (arith, f)) h)
            | no e ↦ omega (arith, size_four b (omega (arith, e)))
          ]
        ]
      ]

-- ---- one byte more

module _ (w : Wides) (b : ℕ) where
  pub advanced_trail : 0x80 ≤ b → b ≤ 0xBF → advanced w b ≡ gone_on w.pending.awaited w.pending.bits w.wide b
  unfolding advanced
  advanced_trail l h = rw (within_in 0x80 0xBF b l h, advanced)

  pub advanced_below : b < 0x80 → advanced w b ≡ record { pending = begun_by b; wide = w.wide }
  unfolding advanced
  advanced_below h = rw (within_below 0x80 0xBF b h, advanced)

  pub advanced_above : 0xBF < b → advanced w b ≡ record { pending = begun_by b; wide = w.wide }
  unfolding advanced
  advanced_above h = rw (within_above 0x80 0xBF b h, advanced)

-- ASCII ends whatever has begun
pub advanced_ascii : (w : Wides) (b : ℕ) → b < 0x80 → advanced w b ≡ none_begun w.wide
advanced_ascii w b h =
    let z : size_of b - 1 ≡ 0 = omega (arith, size_one b (omega (arith, h))) in
    advanced_below w b h ∙ (λ i. record { pending = record { awaited = z i; bits = leading_one b (omega (arith, h)) i }; wide = w.wide })

-- ---- one byte more, which goes on with a character

module _ (x k b : ℕ) where
  pub gone_none : (n : ℕ) → n ≡ 0 → gone_on n x k b ≡ none_begun k
  unfolding gone_on
  gone_none n e = ap (λ (m : ℕ). gone_on m x k b) e

  pub gone_last : (n : ℕ) → n ≡ 1 → gone_on n x k b ≡ none_begun (k + one_if (is_wide (with_six x b)))
  unfolding gone_on
  gone_last n e = ap (λ (m : ℕ). gone_on m x k b) e

  pub gone_more : (n : ℕ) → (n ≡ 0 → ⊥) → (n ≡ 1 → ⊥) → gone_on n x k b ≡ record { pending = record { awaited = n - 1; bits = with_six x b }; wide = k }
  unfolding gone_on
  gone_more zero f g = absurd (f refl)
  gone_more (suc zero) f g = absurd (g refl)
  gone_more (suc (suc n)) f g =
      let z : suc n ≡ suc (suc n) - 1 = omega arith in
      ap (λ (m : ℕ). record { pending = record { awaited = m; bits = with_six x b }; wide = k }) z

-- before the last byte but one come few bits
pub bits_few : (n x : ℕ) → FewBits n x → x < 0x8000
bits_few zero x h = h
bits_few (suc zero) x h = h
bits_few (suc (suc zero)) x h = omega (arith, h)
bits_few (suc (suc (suc zero))) x h = omega (arith, h)
bits_few (suc (suc (suc (suc n)))) x h = absurd h

pub bits_fewer : (n x : ℕ) → FewBits n x → (n ≡ 0 → ⊥) → (n ≡ 1 → ⊥) → x < 0x200
bits_fewer zero x h f g = absurd (f refl)
bits_fewer (suc zero) x h f g = absurd (g refl)
bits_fewer (suc (suc zero)) x h f g = h
bits_fewer (suc (suc (suc zero))) x h f g = omega (arith, h)
bits_fewer (suc (suc (suc (suc n)))) x h f g = absurd h

pub one_few : (x : Bool) → one_if x ≤ 1
one_few true = omega arith
one_few false = omega arith

gone_few : (n x k b : ℕ) → (gone_on n x k b).wide ≤ k + 1
unfolding gone_on
gone_few zero x k b = omega arith
gone_few (suc zero) x k b = omega (arith, one_few (is_wide (with_six x b)))
gone_few (suc (suc n)) x k b = omega arith

-- a byte begins a character, or it may complete a wide one
pub one_a_byte : (w : Wides) (b : ℕ) → begins b + (advanced w b).wide ≤ w.wide + 1
unfolding begins advanced
one_a_byte w b = by (within trail b)
  where
    by : (t : Bool) → elim t as (λ _. ℕ) [ true ↦ 0 | false ↦ 1 ] + (elim t as (λ _. Wides) [ true ↦ gone_on w.pending.awaited w.pending.bits w.wide b | false ↦ record { pending = begun_by b; wide = w.wide } ]).wide ≤ w.wide + 1
    by true = omega (arith, gone_few w.pending.awaited w.pending.bits w.wide b)
    by false = omega arith

gone_fits : (n x k b : ℕ) → FewBits n x → Fits (gone_on n x k b).pending
unfolding gone_on
gone_fits zero x k b h = omega arith
gone_fits (suc zero) x k b h = omega arith
gone_fits (suc (suc zero)) x k b h = omega (arith, h)
gone_fits (suc (suc (suc zero))) x k b h = omega (arith, h)
gone_fits (suc (suc (suc (suc n)))) x k b h = absurd h

pub fits_advanced : (w : Wides) (b : ℕ) → Fits w.pending → Fits (advanced w b).pending
unfolding advanced
fits_advanced w b h = by (within trail b)
  where
    by : (t : Bool) → Fits (elim t as (λ _. Wides) [ true ↦ gone_on w.pending.awaited w.pending.bits w.wide b | false ↦ record { pending = begun_by b; wide = w.wide } ]).pending
    by true = gone_fits w.pending.awaited w.pending.bits w.wide b h
    by false = fits_begun b

-- ---- what was counted before is only added to

abbrev pub raised : ℕ → Wides → Wides
raised k w = record { pending = w.pending; wide = k + w.wide }

raised_gone : (k n x m b : ℕ) → gone_on n x (k + m) b ≡ raised k (gone_on n x m b)
unfolding gone_on
raised_gone k zero x m b = refl
raised_gone k (suc zero) x m b = ap none_begun (add_assoc k m (one_if (is_wide (with_six x b))))
raised_gone k (suc (suc n)) x m b = refl

pub raised_advanced : (k : ℕ) (w : Wides) (b : ℕ) → advanced (raised k w) b ≡ raised k (advanced w b)
unfolding advanced
raised_advanced k w b = by (within trail b)
  where
    by : (t : Bool) → ◌≡◌ {A = Wides} (elim t as (λ _. Wides) [ true ↦ gone_on w.pending.awaited w.pending.bits (k + w.wide) b | false ↦ record { pending = begun_by b; wide = k + w.wide } ])
        (raised k (elim t as (λ _. Wides) [ true ↦ gone_on w.pending.awaited w.pending.bits w.wide b | false ↦ record { pending = begun_by b; wide = w.wide } ]))
    by true = raised_gone k w.pending.awaited w.pending.bits w.wide b
    by false = refl

-- ---- a text more

pub ran_append : (w : Wides) (s t : List ℕ) → ran w (s ++ t) ≡ ran (ran w s) t
unfolding ran
ran_append w [] t = refl
ran_append w (b ∷ s) t = ran_append (advanced w b) s t

pub ran_step : (w : Wides) (s : List ℕ) (i : ℕ) → i < length s → ran w (drop i s) ≡ ran (advanced w (get_or s i 0)) (drop (i + 1) s)
unfolding ran
ran_step w s i h = ap (ran w) (drop_step s i h)

pub ran_end : (w : Wides) (s : List ℕ) (i : ℕ) → length s ≤ i → ran w (drop i s) ≡ w
unfolding ran
ran_end w s i h = ap (ran w) (drop_of_length-le s h)

pub ran_raised : (k : ℕ) (s : List ℕ) (w : Wides) → ran (raised k w) s ≡ raised k (ran w s)
unfolding ran
ran_raised k [] w = refl
ran_raised k (b ∷ s) w = ap (λ (v : Wides). ran v s) (raised_advanced k w b) ∙ ran_raised k s (advanced w b)

-- no text has more characters and wide characters than bytes
pub ran_few : (w : Wides) (s : List ℕ) → chars s + (ran w s).wide ≤ w.wide + length s
unfolding ran
ran_few w [] = omega arith
ran_few w (b ∷ s) = omega (arith, one_a_byte w b, ran_few (advanced w b) s)

-- ---- where every byte begins a character

advanced_begins : (w : Wides) (b : ℕ) → begins b ≡ 1 → advanced w b ≡ record { pending = begun_by b; wide = w.wide }
unfolding begins advanced
advanced_begins w b e = by (within trail b) e
  where
    by : (t : Bool) → ◌≡◌ {A = ℕ} (elim t as (λ _. ℕ) [ true ↦ 0 | false ↦ 1 ]) 1
        → ◌≡◌ {A = Wides} (elim t as (λ _. Wides) [ true ↦ gone_on w.pending.awaited w.pending.bits w.wide b | false ↦ record { pending = begun_by b; wide = w.wide } ]) (record { pending = begun_by b; wide = w.wide })
    by true e = absurd (let z : ⊥ = omega (arith, e) in z)
    by false e = refl

-- none is wide, and the last one may have begun a character
pub ran_begins : (w : Wides) (b : ℕ) (s : List ℕ) → chars (b ∷ s) ≡ length (b ∷ s)
    → ran w (b ∷ s) ≡ record { pending = begun_by (get_or (b ∷ s) (length s) 0); wide = w.wide }
unfolding ran
ran_begins w b [] e = advanced_begins w b (omega (arith, e))
ran_begins w b (d ∷ s) e =
    let one : begins b ≡ 1 = omega (arith, e, begins_most b, chars_length (d ∷ s)) in
    let rest : chars (d ∷ s) ≡ length (d ∷ s) = omega (arith, e, begins_most b, chars_length (d ∷ s)) in
    ap (λ (v : Wides). ran v (d ∷ s)) (advanced_begins w b one) ∙ ran_begins (record { pending = begun_by b; wide = w.wide }) d s rest
