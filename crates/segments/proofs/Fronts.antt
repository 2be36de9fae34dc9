-- Pools that agree on their first segments: what stands below is the same in both. Assumes nothing.
use Prim.Native.Nat.{ℕ, ◌≤◌, ◌<◌}
use mathlib.Core.Path.{◌≡◌, sym, ap, ◌∙◌}
use mathlib.Core.List.{List}
use native.Mathlib.Omega.{arith}
use lib.ListN.{get_or, take}
use lib.Seq.{get_or-take, take-take}
use Rattle.segments.specs.declared.Cell.{Cell}
use Rattle.segments.specs.Pool.{no_cell, cell, kind_at, format_at, back, last_member, segment_at, chain_at}
use Rattle.segments.proofs.Chains.{Same, same_kind, same_format, same_back, same_last, same_segment, same_chain}

pub front_trans : (p q r : List Cell) (n : ℕ) → take n p ≡ take n q → take n q ≡ take n r → take n p ≡ take n r
front_trans p q r n e f = e ∙ f

module _ (p q : List Cell) (n : ℕ) (e : take n p ≡ take n q) where
  pub front_less : (m : ℕ) → m ≤ n → take m p ≡ take m q
  front_less m h =
      sym (take-take m n p h) ∙ ap (take m) e ∙ take-take m n q h

  pub cell_front : (i : ℕ) → i < n → Same p q i
  unfolding cell
  cell_front i h = sym (get_or-take n p i no_cell h) ∙ ap (λ (l : List Cell). get_or l i no_cell) e ∙ get_or-take n q i no_cell h

  pub kind_front : (i : ℕ) → i < n → kind_at p i ≡ kind_at q i
  kind_front i h = same_kind p q i (cell_front i h)

  pub format_front : (i : ℕ) → i < n → format_at p i ≡ format_at q i
  format_front i h = same_format p q i (cell_front i h)

  pub back_front : (i : ℕ) → i < n → back p i ≡ back q i
  back_front i h = same_back p q i (cell_front i h)

  pub last_front : (i : ℕ) → i < n → last_member p i ≡ last_member q i
  last_front i h = same_last p q i (cell_front i h)

  pub segment_front : (i : ℕ) → i < n → segment_at p i ≡ segment_at q i
  segment_front i h = same_segment p q i (λ j g. cell_front j (omega arith))

  pub chain_front : (l : ℕ) → l ≤ n → chain_at p l ≡ chain_at q l
  chain_front l h = same_chain p q l (λ j g. cell_front j (omega arith))
