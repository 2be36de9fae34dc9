-- No two members of a tidy pool have the same member before them: members are made one right after the other, so what is made in between
-- links back to nothing that was made before. Assumes nothing.
use Prim.Native.Nat.{ℕ, zero, suc, ◌+◌, ◌≤◌, ◌<◌}
use mathlib.Core.Path.{◌≡◌, refl, ap, subst, ◌∙◌}
use mathlib.Core.List.{List}
use native.Mathlib.Omega.{arith}
use native.Mathlib.Decide.{dec_lt}
use Rattle.segments.specs.declared.Cell.{Cell}
use Rattle.segments.specs.declared.Kind.{Kind}
use Rattle.segments.specs.Segments.{LogSegment, text, specifier, group}
use Rattle.segments.specs.Sizes.{size, sizes}
use Rattle.segments.specs.Pool.{kind_at, back, last_member, segment_at, chain_at, Tidy}
use Rattle.segments.proofs.Chains.{back_below, chain_none, chain_step, segment_text_lem, segment_group, segment_specifier}
use Rattle.segments.proofs.Joining.{sizes_and_then}

-- a segment counts itself
size_least : (x : LogSegment) → 1 ≤ size x
unfolding size
size_least (text i j) = omega arith
size_least (specifier m f) = omega arith
size_least (group s f) = omega arith

module _ (cells : List Cell) where
  -- the segments back from a link that isn't 0: the last, and those back from there
  sizes_step : (m : ℕ) → sizes (chain_at cells (m + 1)) ≡ sizes (chain_at cells (back cells m)) + size (segment_at cells m)
  sizes_step m = ap sizes (chain_step cells m) ∙ sizes_and_then (chain_at cells (back cells m)) (segment_at cells m)

  sizes_least : (l : ℕ) → 0 < l → 1 ≤ sizes (chain_at cells l)
  sizes_least zero h = absurd (let z : ⊥ = omega arith in z)
  sizes_least (suc m) h =
      omega (arith, ap (λ (l : ℕ). sizes (chain_at cells l)) (let e : suc m ≡ m + 1 = omega arith in e), sizes_step m, size_least (segment_at cells m))

  sizes_none : sizes (chain_at cells 0) ≡ 0
  unfolding sizes
  sizes_none = ap sizes (chain_none cells)

  -- a segment that holds others holds those back from its last member
  size_held : (i : ℕ) → 1 < size (segment_at cells i) → size (segment_at cells i) ≡ sizes (chain_at cells (last_member cells i)) + 1
  unfolding size
  size_held i h = by (kind_at cells i) refl
    where
      by : (k : Kind) → kind_at cells i ≡ k → size (segment_at cells i) ≡ sizes (chain_at cells (last_member cells i)) + 1
      by (Kind.Text from to) e = omega (arith, ap size (segment_text_lem cells i e))
      by (Kind.Group last) e = ap size (segment_group cells i e)
      by (Kind.Specifier m) e = omega (arith, ap size (segment_specifier cells i m e))

  -- what was made within the segment at i, and within the members back from l, links back to nothing before that
  abbrev Within : ℕ → Type 0
  Within i = (j : ℕ) → j < i → i < j + size (segment_at cells i) → 0 < back cells j → i + 1 < back cells j + size (segment_at cells i)

  abbrev Among : ℕ → Type 0
  Among l = (j : ℕ) → j < l → l ≤ j + sizes (chain_at cells l) → 0 < back cells j → l < back cells j + sizes (chain_at cells l)

  module _ (n : ℕ) (t : Tidy cells n) where
    within : (i : ℕ) → i < n → Among i → Within i
    within i h a j g u z =
        let q : 1 < size (segment_at cells i) = omega arith in
        let e = size_held i q in
        let l = ap (λ (k : ℕ). sizes (chain_at cells k)) (t.ends i h q) in
        omega (arith, a j g (let v : i ≤ j + sizes (chain_at cells i) = omega arith in v) z)

    among : (m : ℕ) → m < n → Within m → Among (back cells m) → Among (m + 1)
    among m h w a j g u z =
        let e = sizes_step m in
        elim (dec_lt j m) [
          | yes v ↦ elim (dec_lt 0 (back cells m)) [
            | yes p ↦
                let b = t.begins m h p in
                elim (dec_lt j (back cells m)) [
                  | yes q ↦ omega (arith, a j q (let y : back cells m ≤ j + sizes (chain_at cells (back cells m)) = omega arith in y) z)
                  | no q ↦ omega (arith, w j v (let y : m < j + size (segment_at cells m) = omega arith in y) z)
                ]
            | no p ↦
                let b : sizes (chain_at cells (back cells m)) ≡ 0 = ap (λ (l : ℕ). sizes (chain_at cells l)) (let y : back cells m ≡ 0 = omega arith in y) ∙ sizes_none in
                omega (arith, w j v (let y : m < j + size (segment_at cells m) = omega arith in y) z)
          ]
          | no v ↦
              let s = ap (back cells) (let y : j ≡ m = omega arith in y) in
              let p : 0 < back cells m = omega arith in
              omega (arith, t.begins m h p, sizes_least (back cells m) p)
        ]

    -- by induction on the place
    all : (k : ℕ) → k ≤ n → ((i : ℕ) → i < k → Within i) × ((l : ℕ) → l ≤ k → Among l)
    all zero h = (λ i g. absurd (let z : ⊥ = omega arith in z), λ l g j u. absurd (let z : ⊥ = omega arith in z))
    all (suc k) h =
        let o = all k (omega arith) in
        let w : Within k = within k (omega arith) (o.1 k (omega arith)) in
        let a : Among (k + 1) = among k (omega arith) w (o.1 (back cells k) (back_below cells k)) in (
          λ i g. elim (dec_lt i k) [ yes u ↦ o.0 i u | no u ↦ subst Within (let e : k ≡ i = omega arith in e) w ],
          λ l g. elim (dec_lt k l) [ yes u ↦ subst Among (let e : k + 1 ≡ l = omega arith in e) a | no u ↦ o.1 l (omega arith) ],
        )

    pub apart : (i j : ℕ) → i < j → j < n → 0 < back cells j → back cells i ≡ back cells j → ⊥
    apart i j h g z e =
        let b = t.begins j g z in
        let l = back_below cells i in
        let w = (all n (omega arith)).0 j g i h (let u : j < i + size (segment_at cells j) = omega arith in u) (let u : 0 < back cells i = omega arith in u) in
        omega arith
