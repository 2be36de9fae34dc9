-- Laws of a record's layout: its numbers byte by byte, its size, and its places. Assumes nothing.
use mathlib.Core.Path.{◌≡◌, ap}
use mathlib.Core.Bool.{true, false}
use mathlib.Core.List.{List}
use Prim.Native.Nat.{ℕ, ◌+◌, ◌*◌, ◌≤◌, ◌<◌}
use native.Mathlib.Omega.{arith}
use lib.Dec.{eqb, leb}
use lib.ListN.{length, get_or}
use borrow.Author.Tests.{leb-true, eqb-true, le-leb, lt-leb}
use Rattle.buffer.proofs.Sameness.{both_true}
use Rattle.record.specs.declared.Form.{Form}
use Rattle.record.specs.declared.Places.{Places}
use Rattle.record.specs.Layout.{little_endian, u16, u32, texts, serial_end, right_size, laid_out}
use Rattle.record.specs.Placed.{laid_by, places_in}

-- ---- numbers

pub u16_bytes : (d : List ℕ) (i : ℕ) → u16 d i ≡ get_or d i 0 + 256 * get_or d (i + 1) 0
unfolding little_endian
u16_bytes d i = omega arith

pub u32_bytes : (d : List ℕ) (i : ℕ) → u32 d i ≡ get_or d i 0 + get_or d (i + 1) 0 * 256 + get_or d (i + 2) 0 * 65536 + get_or d (i + 3) 0 * 16777216
unfolding little_endian
u32_bytes d i =
    let two : get_or d (i + 1 + 1) 0 ≡ get_or d (i + 2) 0 = ap (λ (k : ℕ). get_or d k 0) (omega arith) in
    let three : get_or d (i + 1 + 1 + 1) 0 ≡ get_or d (i + 3) 0 = ap (λ (k : ℕ). get_or d k 0) (omega arith) in
    omega (arith, two, three)

-- ---- the size

-- both forms have room for the numbers that they share
pub texts_from : (form : Form) → 15 ≤ texts form
texts_from Form.Old = omega arith
texts_from Form.New = omega arith

module _ (form : Form) (d : List ℕ) where
  pub too_short : length d < texts form → right_size form d ≡ false
  unfolding right_size
  too_short h = rw (lt-leb (texts form) (length d) h)

  pub long_enough : texts form ≤ length d → right_size form d ≡ eqb (serial_end form d) (length d)
  unfolding right_size
  long_enough h = rw (le-leb (texts form) (length d) h)

  -- a record of the right size has room for its numbers, and its texts end where it ends
  pub right_size_lem : right_size form d ≡ true → (texts form ≤ length d) × (serial_end form d ≡ length d)
  unfolding right_size
  right_size_lem e =
      let t = both_true (leb (texts form) (length d)) (eqb (serial_end form d) (length d)) e in
      (leb-true (texts form) (length d) t.0, eqb-true (serial_end form d) (length d) t.1)

  -- for the numbers that both forms share
  pub head_fits : right_size form d ≡ true → 15 ≤ length d
  head_fits e =
      let s = (right_size_lem e).0 in
      let f = texts_from form in
      omega (arith, s, f)

-- ---- places

-- the record by these places is the one that is laid out
pub laid_places : (form : Form) (d : List ℕ) (p : Places) → p ≡ places_in form d → laid_by p d ≡ laid_out form d
unfolding places_in laid_by laid_out
laid_places form d p e = ap (λ (q : Places). laid_by q d) e
