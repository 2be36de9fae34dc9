-- Laws of a character by its bytes, one for each number of them; and that decoding undoes `character`. Assumes nothing.
use Prim.Native.Nat.{ℕ, ◌+◌, ◌*◌, ◌/◌, ◌%◌, ◌≤◌, ◌<◌}
use mathlib.Core.Path.{◌≡◌, refl, ap, ◌∙◌}
use native.Mathlib.Omega.{arith}
use borrow.Author.Tests.{lt-ltb, le-ltb}
use Rattle.buffer.specs.Bytes.{onward}
use Rattle.points.specs.Decoding.{size_of, with_six, point}

-- ---- sizes

pub size_one : (b : ℕ) → b < 0xC0 → size_of b ≡ 1
unfolding size_of
size_one b h = rw (lt-ltb b 0xC0 h, size_of)

pub size_two : (b : ℕ) → 0xC0 ≤ b → b < 0xE0 → size_of b ≡ 2
unfolding size_of
size_two b g h = rw (le-ltb b 0xC0 g, lt-ltb b 0xE0 h, size_of)

pub size_three : (b : ℕ) → 0xE0 ≤ b → b < 0xF0 → size_of b ≡ 3
unfolding size_of
size_three b g h = rw (le-ltb b 0xC0 (omega (arith, g)), le-ltb b 0xE0 g, lt-ltb b 0xF0 h, size_of)

pub size_four : (b : ℕ) → 0xF0 ≤ b → size_of b ≡ 4
unfolding size_of
size_four b g = rw (le-ltb b 0xC0 (omega (arith, g)), le-ltb b 0xE0 (omega (arith, g)), le-ltb b 0xF0 g, size_of)

-- ---- code points

module _ (a b c d : ℕ) where
  pub point_one : a < 0xC0 → point a b c d ≡ a
  unfolding point
  point_one h = rw (lt-ltb a 0xC0 h, point)

  pub point_two : 0xC0 ≤ a → a < 0xE0 → point a b c d ≡ with_six (a % 0x20) b
  unfolding point
  point_two g h = rw (le-ltb a 0xC0 g, lt-ltb a 0xE0 h, point)

  pub point_three : 0xE0 ≤ a → a < 0xF0 → point a b c d ≡ with_six (with_six (a % 0x10) b) c
  unfolding point
  point_three g h = rw (le-ltb a 0xC0 (omega (arith, g)), le-ltb a 0xE0 g, lt-ltb a 0xF0 h, point)

  pub point_four : 0xF0 ≤ a → point a b c d ≡ with_six (with_six (with_six (a % 8) b) c) d
  unfolding point
  point_four g = rw (le-ltb a 0xC0 (omega (arith, g)), le-ltb a 0xE0 (omega (arith, g)), le-ltb a 0xF0 g, point)

-- ---- decoding undoes `character`

-- the four parts of a number of 21 bits, put together again two at a time
high : (n : ℕ) → n < 0x110000 → (0xF0 + n / 0x40000) % 8 * 0x40 + (0x80 + n / 0x1000 % 0x40) % 0x40 ≡ n / 0x1000
high n h = omega (arith, h)

slid : (n : ℕ) → n / 0x1000 ≡ n / 0x40 / 0x40
slid n = omega arith

next : (n m : ℕ) → m ≡ n / 0x40 → m * 0x40 + (0x80 + n % 0x40) % 0x40 ≡ n
next n m e = omega (arith, e)

module _ (n c d : ℕ) where
  pub decoded_two : 0x80 ≤ n → n < 0x800 → point (0xC0 + n / 0x40) (onward n) c d ≡ n
  decoded_two g h =
      point_two (0xC0 + n / 0x40) (onward n) c d (omega (arith, g)) (omega (arith, h))
      ∙ (let q : (0xC0 + n / 0x40) % 0x20 * 0x40 + (0x80 + n % 0x40) % 0x40 ≡ n = omega (arith, g, h) in q)

  pub decoded_three : 0x800 ≤ n → n < 0x10000 → point (0xE0 + n / 0x1000) (onward (n / 0x40)) (onward n) d ≡ n
  decoded_three g h =
      point_three (0xE0 + n / 0x1000) (onward (n / 0x40)) (onward n) d (omega (arith, g)) (omega (arith, h))
      ∙ (let q : ((0xE0 + n / 0x1000) % 0x10 * 0x40 + (0x80 + n / 0x40 % 0x40) % 0x40) * 0x40 + (0x80 + n % 0x40) % 0x40 ≡ n = omega (arith, g, h) in q)

  pub decoded_four : 0x10000 ≤ n → n < 0x110000 → point (0xF0 + n / 0x40000) (onward (n / 0x1000)) (onward (n / 0x40)) (onward n) ≡ n
  decoded_four g h =
      point_four (0xF0 + n / 0x40000) (onward (n / 0x1000)) (onward (n / 0x40)) (onward n) (omega (arith, g))
      ∙ ap (λ (x : ℕ). (x * 0x40 + (0x80 + n / 0x40 % 0x40) % 0x40) * 0x40 + (0x80 + n % 0x40) % 0x40) (high n h)
      ∙ ap (λ (x : ℕ). x * 0x40 + (0x80 + n % 0x40) % 0x40) (next (n / 0x40) (n / 0x1000) (slid n))
      ∙ next n (n / 0x40) refl
