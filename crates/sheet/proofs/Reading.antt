-- What is known of a sheet once its contents are read, in the numbers that the reader has. Assumes nothing.
use mathlib.Core.Path.{◌≡◌, ap, sym, subst, ◌∙◌}
use mathlib.Core.Bool.{◌&&◌}
use mathlib.Core.List.{List}
use Prim.Native.Nat.{ℕ, suc, ◌+◌, ◌*◌, ◌-◌, ◌≤◌, ◌<◌, ◌^◌}
use native.Mathlib.Omega.{arith}
use lib.ListN.{length}
use Rattle.buffer.specs.Bytes.{part}
use Rattle.record.specs.Layout.{u32}
use Rattle.sheet.specs.Sheets.{body_count, contents_end, body_bytes, bodies_from, is_head, form_in, are_records, is_sheet}
use Rattle.sheet.proofs.Standing.{contents_end_lem, by_bodies}
use Rattle.sheet.proofs.Walk.{Left, next_fits, next_left}
use Rattle.sheet.proofs.Heads.{bodies_split}

-- n bodies, the first of them k bytes long
pub record Read (d : List ℕ) (n k : ℕ) : Type 0 where
  pub short : length d ≤ 65536
  pub count : n ≡ body_count d
  pub some_body : 1 ≤ n
  pub contents : 2 + 4 * n ≤ length d
  pub whole : 2 + 4 * n + body_bytes n d 2 ≡ length d
  pub first : k ≡ u32 d 2

-- by what the reader has asked and was told
pub read_at : (d : List ℕ) (n end k : ℕ) → length d ≤ 65536 → (n ≡ body_count d) × (n ≤ 65535) → (n ≡ 0 → ⊥) → 2 + 4 * n ≤ length d
    → end ≡ 2 + 4 * n + body_bytes n d 2 → end ≡ length d → (k ≡ u32 d 2) × (k < 2 ^ 32) → Read d n k
read_at d n end k short count some contents sum whole first = record {
  short = short;
  count = count.0;
  some_body = omega (arith, some);
  contents = contents;
  whole = sym sum ∙ whole;
  first = first.0;
}

module _ (d : List ℕ) (n k : ℕ) (r : Read d n k) where
  one_more : n ≡ suc (n - 1)
  one_more = omega (arith, r.some_body)

  read_left : Left n d 2 (2 + 4 * n)
  read_left = record { lengths = r.contents; whole = r.whole }

  pub first_fits : 2 + 4 * n + k ≤ length d
  first_fits = omega (arith, r.first, (next_fits n (n - 1) d 2 (2 + 4 * n) one_more read_left).1)

  pub others_left : Left (n - 1) d 6 (2 + 4 * n + k)
  others_left =
      subst (λ (x : ℕ). Left (n - 1) d 6 (2 + 4 * n + x)) (sym r.first) (next_left n (n - 1) d 2 (2 + 4 * n) one_more read_left)

  -- what is left to see: that body 0 can be one, and that the others are records
  pub left_to_see : is_sheet d ≡ (is_head (part (2 + 4 * n) (2 + 4 * n + k) d) && are_records (form_in (part (2 + 4 * n) (2 + 4 * n + k) d)) (bodies_from (n - 1) d 6 (2 + 4 * n + k)))
  left_to_see =
      let from : contents_end d ≡ 2 + 4 * n = omega (arith, contents_end_lem d, r.count) in
      let all : body_bytes n d 2 ≡ body_bytes (body_count d) d 2 = ap (λ (x : ℕ). body_bytes x d 2) r.count in
      by_bodies d r.short (omega (arith, r.contents)) (omega (arith, r.count, r.some_body)) (omega (arith, r.contents, from)) (omega (arith, r.whole, all, from))
      ∙ bodies_split d (n - 1) (omega (arith, r.count, one_more))
      ∙ ap (λ (j : ℕ). is_head (part j (j + u32 d 2) d) && are_records (form_in (part j (j + u32 d 2) d)) (bodies_from (n - 1) d 6 (j + u32 d 2))) from
      ∙ ap (λ (x : ℕ). is_head (part (2 + 4 * n) (2 + 4 * n + x) d) && are_records (form_in (part (2 + 4 * n) (2 + 4 * n + x) d)) (bodies_from (n - 1) d 6 (2 + 4 * n + x))) (sym r.first)
