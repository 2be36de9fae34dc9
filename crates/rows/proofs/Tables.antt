-- The table, row by row. Assumes nothing.
use Prim.Native.Nat.{ℕ, ◌+◌, ◌≤◌, ◌<◌}
use mathlib.Core.Path.{◌≡◌, sym, ap, ◌∙◌}
use mathlib.Core.List.{List}
use native.Mathlib.Omega.{arith}
use native.Mathlib.Decide.{dec_lt}
use lib.ListN.{length, set, length-set}
use lib.Seq.{get_or-set_same, get_or-set_other}
use Rattle.colour.specs.declared.Settings.{Settings}
use Rattle.segments.specs.declared.Cell.{Cell}
use Rattle.segments.specs.Pool.{segment_at}
use Rattle.record.specs.Records.{Record}
use Rattle.rows.specs.declared.Row.{Row}
use Rattle.rows.specs.Rows.{row_at, row_of, Tabled}

module _ (s : Settings) (t : List ℕ) (r : Record) (cells : List Cell) where
  pub tabled_less : (table : List Row) (n m : ℕ) → m ≤ n → Tabled s t r cells table n → Tabled s t r cells table m
  tabled_less table n m h o = record { room = omega (arith, o.room); row = λ i g. o.row i (omega arith) }

  pub tabled_none : (table : List Row) → Tabled s t r cells table 0
  tabled_none table = record { room = omega arith; row = λ i h. absurd (let z : ⊥ = omega arith in z) }

  -- one row more
  pub tabled_more : (table : List Row) (i : ℕ) (w : Row) → i < length table → Tabled s t r cells table i → w ≡ row_of s t r (segment_at cells i)
      → Tabled s t r cells (set table i w) (i + 1)
  tabled_more table i w h o e = record {
    room = omega (arith, length-set table i w);
    row = λ j g. elim (dec_lt j i) [
      | yes l ↦ get_or-set_other table i j w (record { padding = 0; inserted = 0; len = 0 }) (λ q. omega arith) ∙ o.row j l
      | no l ↦
          let q : j ≡ i = omega arith in
          ap (row_at (set table i w)) q ∙ get_or-set_same table i w (record { padding = 0; inserted = 0; len = 0 }) h ∙ e
          ∙ ap (λ (k : ℕ). row_of s t r (segment_at cells k)) (sym q)
    ];
  }
