-- What a sheet is, fact by fact: the six conditions of `is_sheet`, and what its contents hold. Assumes nothing.
use mathlib.Core.Path.{◌≡◌, refl}
use mathlib.Core.Bool.{Bool, true, false, ◌&&◌}
use mathlib.Core.List.{List}
use Prim.Native.Nat.{ℕ, ◌+◌, ◌*◌, ◌≤◌, ◌<◌}
use lib.Dec.{eqb, leb}
use lib.ListN.{length}
use borrow.Author.Tests.{leb-true, eqb-true, le-leb, lt-leb, eq-eqb, ne_eqb}
use Rattle.buffer.specs.Table.{none, some}
use Rattle.sheet.specs.Sheets.{body_count, contents_end, body_bytes, bodies, are_bodies, is_sheet, held, sheet_of}

-- both of two tests
pub both_true : (a b : Bool) → (a && b) ≡ true → (a ≡ true) × (b ≡ true)
both_true true b e = (refl, e)
both_true false b e = (cc, cc)

-- ---- a sheet

pub record Stands (d : List ℕ) : Type 0 where
  pub short : length d ≤ 65536
  pub long : 2 ≤ length d
  pub some_body : 1 ≤ body_count d
  pub contents : contents_end d ≤ length d
  pub whole : contents_end d + body_bytes (body_count d) d 2 ≡ length d
  pub right : are_bodies (bodies d) ≡ true

module _ (d : List ℕ) where
  abbrev is_short : Bool
  is_short = leb (length d) 65536

  abbrev is_long : Bool
  is_long = leb 2 (length d)

  abbrev is_some : Bool
  is_some = leb 1 (body_count d)

  abbrev has_contents : Bool
  has_contents = leb (contents_end d) (length d)

  abbrev is_whole : Bool
  is_whole = eqb (contents_end d + body_bytes (body_count d) d 2) (length d)

  pub stands : is_sheet d ≡ true → Stands d
  unfolding is_sheet
  stands e =
      let a = both_true (is_short && is_long && is_some && has_contents && is_whole) (are_bodies (bodies d)) e in
      let b = both_true (is_short && is_long && is_some && has_contents) is_whole a.0 in
      let c = both_true (is_short && is_long && is_some) has_contents b.0 in
      let f = both_true (is_short && is_long) is_some c.0 in
      let g = both_true is_short is_long f.0 in
      record {
        short = leb-true (length d) 65536 g.0;
        long = leb-true 2 (length d) g.1;
        some_body = leb-true 1 (body_count d) f.1;
        contents = leb-true (contents_end d) (length d) c.1;
        whole = eqb-true (contents_end d + body_bytes (body_count d) d 2) (length d) b.1;
        right = a.1;
      }

  -- ---- one condition after the other, as a reader of the bytes meets them

  pub too_long_lem : 65536 < length d → is_sheet d ≡ false
  unfolding is_sheet
  too_long_lem a = rw (lt-leb (length d) 65536 a)

  pub too_short : length d ≤ 65536 → length d < 2 → is_sheet d ≡ false
  unfolding is_sheet
  too_short a b = rw (le-leb (length d) 65536 a, lt-leb 2 (length d) b)

  pub no_body : length d ≤ 65536 → 2 ≤ length d → body_count d < 1 → is_sheet d ≡ false
  unfolding is_sheet
  no_body a b c = rw (le-leb (length d) 65536 a, le-leb 2 (length d) b, lt-leb 1 (body_count d) c)

  pub cut_off : length d ≤ 65536 → 2 ≤ length d → 1 ≤ body_count d → length d < contents_end d → is_sheet d ≡ false
  unfolding is_sheet
  cut_off a b c f = rw (le-leb (length d) 65536 a, le-leb 2 (length d) b, le-leb 1 (body_count d) c, lt-leb (contents_end d) (length d) f)

  pub not_whole : length d ≤ 65536 → 2 ≤ length d → 1 ≤ body_count d → contents_end d ≤ length d
      → (contents_end d + body_bytes (body_count d) d 2 ≡ length d → ⊥) → is_sheet d ≡ false
  unfolding is_sheet
  not_whole a b c f g =
      rw (le-leb (length d) 65536 a, le-leb 2 (length d) b, le-leb 1 (body_count d) c, le-leb (contents_end d) (length d) f, ne_eqb (contents_end d + body_bytes (body_count d) d 2) (length d) g)

  pub by_bodies : length d ≤ 65536 → 2 ≤ length d → 1 ≤ body_count d → contents_end d ≤ length d
      → contents_end d + body_bytes (body_count d) d 2 ≡ length d → is_sheet d ≡ are_bodies (bodies d)
  unfolding is_sheet
  by_bodies a b c f g =
      rw (le-leb (length d) 65536 a, le-leb 2 (length d) b, le-leb 1 (body_count d) c, le-leb (contents_end d) (length d) f, eq-eqb (contents_end d + body_bytes (body_count d) d 2) (length d) g)

  -- ---- what it holds

  pub contents_end_lem : contents_end d ≡ 2 + 4 * body_count d
  unfolding contents_end
  contents_end_lem = refl

  pub sheet_some : is_sheet d ≡ true → sheet_of d ≡ some (held (bodies d))
  unfolding sheet_of
  sheet_some e = rw (e, sheet_of)

  pub sheet_none : is_sheet d ≡ false → sheet_of d ≡ none
  unfolding sheet_of
  sheet_none e = rw (e, sheet_of)
