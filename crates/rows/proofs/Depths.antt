-- How deep groups stand below a segment of the pool: a member as deep as its chain, a group's members one less. Assumes nothing.
use Prim.Native.Nat.{ℕ, zero, suc, ◌+◌, ◌-◌, ◌≤◌, ◌<◌}
use mathlib.Core.Path.{◌≡◌, refl, sym, ap, subst, ◌∙◌}
use mathlib.Core.List.{List}
use native.Mathlib.Omega.{arith}
use native.Mathlib.Decide.{dec_lt}
use Rattle.words.specs.declared.LogFormat.{LogFormat}
use Rattle.segments.specs.declared.Cell.{Cell}
use Rattle.segments.specs.declared.Kind.{Kind}
use Rattle.segments.specs.Segments.{LogSegment, LogSegments, group, none, more, ◌and_then◌}
use Rattle.segments.specs.Sizes.{Low, Lows}
use Rattle.segments.specs.Pool.{kind_at, format_at, back, last_member, segment_at, chain_at}
use Rattle.segments.proofs.Chains.{back_below, chain_step, segment_group}
use Rattle.members.specs.Links.{back_by, OnChain}

lows_first : (d : ℕ) (s : LogSegments) (x : LogSegment) → Lows d (s and_then x) → Lows d s
unfolding ◌and_then◌
lows_first d none x h = tt
lows_first d (more y rest) x h = (h.0, lows_first d rest x h.1)

lows_last : (d : ℕ) (s : LogSegments) (x : LogSegment) → Lows d (s and_then x) → Low d x
unfolding ◌and_then◌
lows_last d none x h = h.0
lows_last d (more y rest) x h = lows_last d rest x h.1

-- a group stands above nothing at depth 0, and its members stand one less deep
deep : (d : ℕ) (s : LogSegments) (f : LogFormat) → Low d (group s f) → (1 ≤ d) × Lows (d - 1) s
deep zero s f h = absurd h
deep (suc d) s f h = (omega arith, subst (λ (n : ℕ). Lows n s) (let e : d ≡ suc d - 1 = omega arith in e) h.1)

module _ (cells : List Cell) (d : ℕ) where
  group_low : (i : ℕ) {last : ℕ} → kind_at cells i ≡ Kind.Group last → Low d (segment_at cells i) → (1 ≤ d) × Lows (d - 1) (chain_at cells (last_member cells i))
  group_low i k h = deep d (chain_at cells (last_member cells i)) (format_at cells i) (subst (Low d) (segment_group cells i k) h)

  pub group_deep : (i : ℕ) {last : ℕ} → kind_at cells i ≡ Kind.Group last → Low d (segment_at cells i) → 1 ≤ d
  group_deep i k h = (group_low i k h).0

  pub members_low : (i l : ℕ) {last : ℕ} → kind_at cells i ≡ Kind.Group last → l ≡ last_member cells i → Low d (segment_at cells i) → Lows (d - 1) (chain_at cells l)
  members_low i l k e h = subst (λ (n : ℕ). Lows (d - 1) (chain_at cells n)) (sym e) (group_low i k h).1

  -- the link l, which isn't 0, leads to a member, and to those before it
  step_low : (l : ℕ) → 0 < l → Lows d (chain_at cells l) → Lows d (chain_at cells (back cells (l - 1)) and_then segment_at cells (l - 1))
  step_low l h o = subst (Lows d) (ap (chain_at cells) (let e : l ≡ l - 1 + 1 = omega arith in e) ∙ chain_step cells (l - 1)) o

  by_low : (n l : ℕ) → Lows d (chain_at cells l) → Lows d (chain_at cells (back_by cells n l))
  unfolding back_by
  by_low zero l o = o
  by_low (suc n) l o = by_low n (back cells (l - 1)) (by (back cells (l - 1)) refl)
    where
      by : (b : ℕ) → b ≡ back cells (l - 1) → Lows d (chain_at cells b)
      by b e = elim (dec_lt 0 l) [
        | yes g ↦ subst (λ (k : ℕ). Lows d (chain_at cells k)) (sym e) (lows_first d (chain_at cells (back cells (l - 1))) (segment_at cells (l - 1)) (step_low l g o))
        | no g ↦ subst (λ (k : ℕ). Lows d (chain_at cells k)) (let q : l ≡ b = omega (arith, back_below cells (l - 1)) in q) o
      ]

  pub member_low : (l k : ℕ) → 0 < k → OnChain cells l k → Lows d (chain_at cells l) → Low d (segment_at cells (k - 1))
  member_low l k h c o =
      lows_last d (chain_at cells (back cells (k - 1))) (segment_at cells (k - 1))
      (step_low k h (subst (λ (n : ℕ). Lows d (chain_at cells n)) c.leads (by_low c.count l o)))
