-- The texts of the members back from a link. Assumes nothing.
use Prim.Native.Nat.{ℕ, zero, suc, ◌+◌, ◌-◌, ◌≤◌, ◌<◌}
use mathlib.Core.Path.{◌≡◌, refl, sym, ap}
use mathlib.Core.List.{List}
use native.Mathlib.Omega.{arith}
use native.Mathlib.Decide.{dec_lt}
use lib.ListN.{length}
use Rattle.colour.specs.declared.Settings.{Settings}
use Rattle.segments.specs.declared.Cell.{Cell}
use Rattle.segments.specs.Pool.{back, segment_at, chain_at}
use Rattle.segments.proofs.Chains.{back_below}
use Rattle.record.specs.Records.{Record}
use Rattle.members.specs.Links.{back_by, OnChain}
use Rattle.rows.specs.Texts.{segment_text, segments_text}
use Rattle.rows.proofs.Segments.{members_length}

-- the text of the members back from a link begins with that of those further back
module _ (cells : List Cell) (s : Settings) (t : List ℕ) (r : Record) where
  by_shorter : (n l : ℕ) → length (segments_text s t r (chain_at cells (back_by cells n l))) ≤ length (segments_text s t r (chain_at cells l))
  unfolding back_by
  by_shorter zero l = omega arith
  by_shorter (suc n) l =
      let h = by_shorter n (back cells (l - 1)) in
      elim (dec_lt 0 l) [
        | yes g ↦ omega (arith, h, members_length s t r cells l (l - 1) (back cells (l - 1)) (omega arith) refl)
        | no g ↦
            let e : back cells (l - 1) ≡ l = omega (arith, back_below cells (l - 1)) in
            omega (arith, h, ap (λ (k : ℕ). length (segments_text s t r (chain_at cells k))) e)
      ]

  pub on_shorter : (l k : ℕ) → OnChain cells l k → length (segments_text s t r (chain_at cells k)) ≤ length (segments_text s t r (chain_at cells l))
  on_shorter l k o = omega (arith, by_shorter o.count l, ap (λ (n : ℕ). length (segments_text s t r (chain_at cells n))) o.leads)

  -- so there is room for the member that k leads to after those back from j
  pub member_room : (l j k : ℕ) → j < k → OnChain cells l k → back cells (k - 1) ≡ j
      → length (segments_text s t r (chain_at cells j)) + length (segment_text s t r (segment_at cells (k - 1))) ≤ length (segments_text s t r (chain_at cells l))
  member_room l j k h o e = omega (arith, on_shorter l k o, members_length s t r cells k (k - 1) j (omega arith) (sym e))
