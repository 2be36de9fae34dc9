-- The walk along a sheet's bodies: i is the place of the next length, j of the next body, and m bodies are left. Laws take an equation
-- m ≡ suc n, so that a loop may count in the way that suits it. Assumes nothing.
use mathlib.Core.Path.{◌≡◌, ap, sym, ◌∙◌}
use mathlib.Core.Bool.{Bool, true, false, ◌&&◌}
use mathlib.Core.List.{List, [], ◌∷◌}
use Prim.Native.Nat.{ℕ, suc, ◌+◌, ◌*◌, ◌≤◌}
use native.Mathlib.Omega.{arith}
use lib.ListN.{length}
use Rattle.buffer.specs.Bytes.{part}
use Rattle.record.specs.declared.Form.{Form}
use Rattle.record.specs.Layout.{u32, right_size, laid_out}
use Rattle.sheet.specs.Sheets.{body_count, contents_end, body_bytes, bodies_from, are_records, is_sheet, all_laid_out}
use Rattle.sheet.proofs.Standing.{both_true, stands, contents_end_lem}

-- the lengths of the bodies that are left lie in the sheet, and the bodies reach to its end
pub record Left (m : ℕ) (d : List ℕ) (i j : ℕ) : Type 0 where
  pub lengths : i + 4 * m ≤ length d
  pub whole : j + body_bytes m d i ≡ length d

-- the place of the length after the one at k
pub next_place : (i k : ℕ) → i + 4 * k + 4 ≡ i + 4 * (k + 1)
next_place i k = omega arith

-- before the first body
pub all_left : (d : List ℕ) → is_sheet d ≡ true → Left (body_count d) d 2 (contents_end d)
all_left d e =
    let s = stands d e in
    record { lengths = omega (arith, s.contents, contents_end_lem d); whole = s.whole }

module _ (m n : ℕ) (d : List ℕ) (i j : ℕ) (one_more : m ≡ suc n) where
  pub bytes_next : body_bytes m d i ≡ u32 d i + body_bytes n d (i + 4)
  unfolding body_bytes
  bytes_next = ap (λ (k : ℕ). body_bytes k d i) one_more

  pub bodies_next : bodies_from m d i j ≡ part j (j + u32 d i) d ∷ bodies_from n d (i + 4) (j + u32 d i)
  unfolding bodies_from
  bodies_next = ap (λ (k : ℕ). bodies_from k d i j) one_more

  -- the next body lies in the sheet
  pub next_fits : Left m d i j → (i + 4 ≤ length d) × (j + u32 d i ≤ length d)
  next_fits l = (omega (arith, l.lengths, one_more), omega (arith, l.whole, bytes_next))

  -- and the others after it
  pub next_left : Left m d i j → Left n d (i + 4) (j + u32 d i)
  next_left l = record { lengths = omega (arith, l.lengths, one_more); whole = omega (arith, l.whole, bytes_next) }

  module _ (form : Form) where
    -- whether they are records: the next, then the others
    pub records_next : are_records form (bodies_from m d i j) ≡ (right_size form (part j (j + u32 d i) d) && are_records form (bodies_from n d (i + 4) (j + u32 d i)))
    unfolding are_records
    records_next = ap (are_records form) bodies_next

    pub records_go_on : right_size form (part j (j + u32 d i) d) ≡ true → are_records form (bodies_from m d i j) ≡ are_records form (bodies_from n d (i + 4) (j + u32 d i))
    records_go_on e = records_next ∙ ap (λ (t : Bool). t && are_records form (bodies_from n d (i + 4) (j + u32 d i))) e

    pub records_stop : right_size form (part j (j + u32 d i) d) ≡ false → are_records form (bodies_from m d i j) ≡ false
    records_stop e = records_next ∙ ap (λ (t : Bool). t && are_records form (bodies_from n d (i + 4) (j + u32 d i))) e

    pub records_left : are_records form (bodies_from m d i j) ≡ true
        → (right_size form (part j (j + u32 d i) d) ≡ true) × (are_records form (bodies_from n d (i + 4) (j + u32 d i)) ≡ true)
    records_left e =
        both_true (right_size form (part j (j + u32 d i) d)) (are_records form (bodies_from n d (i + 4) (j + u32 d i))) (sym records_next ∙ e)

    pub laid_next : all_laid_out form (bodies_from m d i j) ≡ laid_out form (part j (j + u32 d i) d) ∷ all_laid_out form (bodies_from n d (i + 4) (j + u32 d i))
    unfolding all_laid_out
    laid_next = ap (all_laid_out form) bodies_next

-- after the last body
module _ (m : ℕ) (d : List ℕ) (i j : ℕ) (no_more : m ≡ 0) where
  pub bytes_end : body_bytes m d i ≡ 0
  unfolding body_bytes
  bytes_end = ap (λ (k : ℕ). body_bytes k d i) no_more

  pub bodies_end : bodies_from m d i j ≡ []
  unfolding bodies_from
  bodies_end = ap (λ (k : ℕ). bodies_from k d i j) no_more

  module _ (form : Form) where
    pub records_end : are_records form (bodies_from m d i j) ≡ true
    unfolding are_records
    records_end = ap (are_records form) bodies_end

    pub laid_end : all_laid_out form (bodies_from m d i j) ≡ []
    unfolding all_laid_out
    laid_end = ap (all_laid_out form) bodies_end
