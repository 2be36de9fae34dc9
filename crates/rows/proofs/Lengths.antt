-- The lengths that a table has of members, one after the other: together they are the length of their text. Assumes nothing.
use Prim.Native.Nat.{ℕ, zero, suc, ◌+◌, ◌-◌, ◌≤◌}
use mathlib.Core.Path.{◌≡◌, refl, sym, ap, ◌∙◌}
use mathlib.Core.List.{List}
use native.Mathlib.Numerals.{add-one}
use native.Mathlib.Omega.{arith}
use native.Mathlib.Decide.{dec_lt}
use borrow.Author.Tests.{eq-eqb, ne_eqb}
use lib.ListN.{length}
use Rattle.colour.specs.declared.Settings.{Settings}
use Rattle.segments.specs.declared.Cell.{Cell}
use Rattle.segments.specs.Pool.{back, segment_at, chain_at}
use Rattle.segments.proofs.Chains.{back_below}
use Rattle.record.specs.Records.{Record}
use Rattle.rows.specs.declared.Row.{Row}
use Rattle.rows.specs.Texts.{segments_text}
use Rattle.rows.specs.Rows.{row_at, lengths_below, lengths_back, Tabled}
use Rattle.rows.proofs.Framing.{row_length_lem}
use Rattle.rows.proofs.Segments.{members_none, members_length}
use Rattle.rows.proofs.Tables.{tabled_less}

module _ (cells : List Cell) (table : List Row) where
  lengths_at : (b l : ℕ) → l ≡ b + 1 → lengths_below cells table (suc b) l ≡ lengths_below cells table b (back cells b) + (row_at table b).len
  unfolding lengths_below
  lengths_at b l e = rw (eq-eqb l (b + 1) e, lengths_below)

  lengths_up : (b l : ℕ) → (l ≡ b + 1 → ⊥) → lengths_below cells table (suc b) l ≡ lengths_below cells table b l
  unfolding lengths_below
  lengths_up b l e = rw (ne_eqb l (b + 1) e, lengths_below)

  -- a bound above the link doesn't matter
  lengths_less : (b l : ℕ) → l ≤ b → lengths_below cells table b l ≡ lengths_below cells table l l
  lengths_less zero l h = ap (λ (b : ℕ). lengths_below cells table b l) (let q : 0 ≡ l = omega arith in q)
  lengths_less (suc b) l h = elim (dec_lt b l) [
    | yes g ↦ ap (λ (c : ℕ). lengths_below cells table c l) (let q : suc b ≡ l = omega arith in q)
    | no g ↦ lengths_up b l (λ e. omega arith) ∙ lengths_less b l (omega arith)
  ]

  pub lengths_none : (l : ℕ) → l ≡ 0 → lengths_back cells table l ≡ 0
  unfolding lengths_back lengths_below
  lengths_none l e = ap (lengths_back cells table) e

  -- back from a link that isn't 0, with i the place it leads to and b the link back from there
  pub lengths_step : (l i b : ℕ) → l ≡ i + 1 → b ≡ back cells i → lengths_back cells table l ≡ lengths_back cells table b + (row_at table i).len
  unfolding lengths_back
  lengths_step l i b e f =
      ap (λ (n : ℕ). lengths_below cells table n n) (e ∙ add-one i)
      ∙ lengths_at i (suc i) (sym (add-one i))
      ∙ ap (λ (n : ℕ). n + (row_at table i).len)
      (lengths_less i (back cells i) (back_below cells i) ∙ ap (λ (n : ℕ). lengths_below cells table n n) (sym f))

  module _ (s : Settings) (t : List ℕ) (r : Record) where
    told_none : (l : ℕ) → l ≡ 0 → lengths_back cells table l ≡ length (segments_text s t r (chain_at cells l))
    told_none l e = lengths_none l e ∙ sym (ap length (members_none s t r cells l e))

    lengths_below_lem : (b l : ℕ) → l ≤ b → Tabled s t r cells table l → lengths_back cells table l ≡ length (segments_text s t r (chain_at cells l))
    lengths_below_lem zero l h o = told_none l (omega arith)
    lengths_below_lem (suc b) l h o = elim (dec_lt 0 l) [
      | yes g ↦
          let i = l - 1 in
          let k = back cells i in
          let e : l ≡ i + 1 = omega arith in
          let f = back_below cells i in
          omega (
            arith,
            lengths_step l i k e refl,
            members_length s t r cells l i k e refl,
            lengths_below_lem b k (omega arith) (tabled_less s t r cells table l k (omega arith) o),
            ap (λ (w : Row). w.len) (o.row i (omega arith)),
            row_length_lem s t r (segment_at cells i),
          )
      | no g ↦ told_none l (omega arith)
    ]

    pub lengths_told : (l : ℕ) → Tabled s t r cells table l → lengths_back cells table l ≡ length (segments_text s t r (chain_at cells l))
    lengths_told l o = lengths_below_lem l l (omega arith) o
