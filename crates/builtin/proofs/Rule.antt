-- The rule of the table, proved at all of its rows by one test that is computed. Assumes nothing.
use mathlib.Core.Path.{◌≡◌, refl, ap, sym, ◌∙◌}
use mathlib.Core.Bool.{Bool, true, false, ◌&&◌}
use mathlib.Core.List.{List, [], ◌∷◌, ◌++◌}
use Prim.Native.Nat.{ℕ, zero, suc, ◌+◌, ◌≤◌, ◌<◌}
use native.Mathlib.Nat.{not-suc-le-zero}
use native.Mathlib.Omega.{arith}
use lib.Dec.{eqb, leb}
use lib.ListN.{length, get_or}
use borrow.Author.Tests.{leb-true, eqb-true, eqb-false}
use Rattle.buffer.specs.Bytes.{bytes, part, same}
use Rattle.buffer.proofs.Sameness.{both_true, same→≡}
use Rattle.builtin.specs.Builtins.{builtin}
use Rattle.builtin.specs.Rows.{row_text}

-- ---- the table, as the code has it

unfoldable pub table : List ℕ
table =
    bytes "{L} {s}"
    ++ bytes "{t} {L} {s}"
    ++ bytes "{L} {s}\n└─ {m} @ {F}:{l}"
    ++ bytes "{t} {L} {s}\n└─ {m} @ {F}:{l}"
    ++ bytes "{[{L}]%bold} {s}"
    ++ bytes "{t} {[{L}]%bold} {s}"
    ++ bytes "{[{L}]%bold} {s} {({c:bold} {fff}:{l:1})%dimmed}"
    ++ bytes "{t} {[{L}]%bold} {s} {({c:bold} {fff}:{l:1})%dimmed}"

unfoldable pub starts : List ℕ
starts = 0 ∷ 7 ∷ 18 ∷ 46 ∷ 78 ∷ 94 ∷ 114 ∷ 162 ∷ []

unfoldable pub lengths : List ℕ
lengths = 7 ∷ 11 ∷ 28 ∷ 32 ∷ 16 ∷ 20 ∷ 48 ∷ 52 ∷ []

-- ---- a test at every row

-- whether f passes at each of the first n rows
abbrev every_below : (ℕ → Bool) → ℕ → Bool
every_below f zero = true
every_below f (suc n) = every_below f n && f n

last_or_before : (f : ℕ → Bool) (n k : ℕ) (t : Bool) → eqb n k ≡ t → f n ≡ true → ((n ≡ k → ⊥) → f k ≡ true) → f k ≡ true
last_or_before f n k true p last before = ap f (sym (eqb-true n k p)) ∙ last
last_or_before f n k false p last before = before (eqb-false n k p)

every_at : (f : ℕ → Bool) (n k : ℕ) → every_below f n ≡ true → k < n → f k ≡ true
every_at f zero k e h = absurd (not-suc-le-zero h)
every_at f (suc n) k e h =
    let t = both_true (every_below f n) (f n) e in
    last_or_before f n k (eqb n k) refl t.1 (λ other. every_at f n k t.0 (omega (arith, other)))

-- ---- the rule

-- a row lies in the table, is as long as its template, and holds its bytes
module _ (k : ℕ) where
  abbrev start : ℕ
  start = get_or starts k 0

  abbrev size : ℕ
  size = get_or lengths k 0

  abbrev in_table : Bool
  in_table = leb (start + size) 214

  abbrev is_short : Bool
  is_short = leb size 64

  abbrev is_long : Bool
  is_long = eqb size (length (row_text k))

  abbrev is_text : Bool
  is_text = same (part start (start + size) table) (row_text k)

  unfoldable row_right : Bool
  row_right = in_table && (is_short && (is_long && is_text))

all_right : every_below row_right 8 ≡ true
unfolding row_right starts lengths table row_text builtin same
all_right = refl

pub record Row (k : ℕ) : Type 0 where
  pub within : get_or starts k 0 + get_or lengths k 0 ≤ 214
  pub short : get_or lengths k 0 ≤ 64
  pub size : get_or lengths k 0 ≡ length (row_text k)
  pub text : part (get_or starts k 0) (get_or starts k 0 + get_or lengths k 0) table ≡ row_text k

pub row : (k : ℕ) → k < 8 → Row k
unfolding row_right
row k h =
    let a = both_true (in_table k) (is_short k && (is_long k && is_text k)) (every_at row_right 8 k all_right h) in
    let b = both_true (is_short k) (is_long k && is_text k) a.1 in
    let c = both_true (is_long k) (is_text k) b.1 in
    record {
      within = leb-true (start k + size k) 214 a.0;
      short = leb-true (size k) 64 b.0;
      size = eqb-true (size k) (length (row_text k)) c.0;
      text = same→≡ (part (start k) (start k + size k) table) (row_text k) c.1;
    }
