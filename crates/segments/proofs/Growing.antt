-- A pool that grows keeps what it holds, and stays within bounds. Assumes nothing.
use Prim.Native.Nat.{ℕ, ◌+◌, ◌≤◌, ◌<◌}
use mathlib.Core.Path.{◌≡◌, sym, ap, subst, ◌∙◌}
use mathlib.Core.List.{List}
use native.Mathlib.Omega.{arith}
use native.Mathlib.Decide.{dec_lt}
use lib.ListN.{take}
use Rattle.segments.specs.declared.Cell.{Cell}
use Rattle.segments.specs.Segments.{LogSegment, LogSegments, ◌and_then◌}
use Rattle.segments.specs.Sizes.{size, Low}
use Rattle.segments.specs.Pool.{back, last_member, segment_at, chain_at, Adds, Sound, Tidy}
use Rattle.segments.proofs.Chains.{chain_step}
use Rattle.segments.proofs.Fronts.{front_less, back_front, last_front, segment_front, chain_front}

-- what stood before the added segment stands as it was, and it ends the members that its link leads back to
module _ {p q : List Cell} {n link : ℕ} {x : LogSegment} (a : Adds p q n link x) where
  pub grown_front : (m : ℕ) → m ≤ n → take m q ≡ take m p
  grown_front = front_less q p n a.front

  pub grown_segment : (i : ℕ) → i < n → segment_at q i ≡ segment_at p i
  grown_segment = segment_front q p n a.front

  pub grown_chain : (l : ℕ) → l ≤ n → chain_at q l ≡ chain_at p l
  grown_chain = chain_front q p n a.front

  pub grown_member : link ≤ n → chain_at q (n + 1) ≡ chain_at p link and_then x
  grown_member h =
      chain_step q n
      ∙ ap (λ (l : ℕ). chain_at q l and_then segment_at q n) a.linked
      ∙ ap (λ (s : LogSegments). s and_then segment_at q n) (grown_chain link h)
      ∙ ap (λ (y : LogSegment). chain_at p link and_then y) a.made

pub sound_none : (p : List Cell) → Sound p 0
sound_none p = record { few = λ i h. absurd (let z : ⊥ = omega arith in z); low = λ i h. absurd (let z : ⊥ = omega arith in z) }

pub sound_front : (p q : List Cell) (n : ℕ) → Sound p n → take n q ≡ take n p → Sound q n
sound_front p q n s e = record {
  few = λ i h. subst (λ (x : LogSegment). size x ≤ 64) (sym (segment_front q p n e i h)) (s.few i h);
  low = λ i h. subst (Low 8) (sym (segment_front q p n e i h)) (s.low i h);
}

pub sound_more : (p q : List Cell) (n link : ℕ) (x : LogSegment) → Sound p n → Adds p q n link x → size x ≤ 64 → Low 8 x → Sound q (n + 1)
sound_more p q n link x s a few low =
    let t : Sound q n = sound_front p q n s a.front in
    record {
      few = λ i h. elim (dec_lt i n) [
        | yes g ↦ t.few i g
        | no g ↦ subst (λ (y : LogSegment). size y ≤ 64) (sym (ap (segment_at q) (let e : i ≡ n = omega arith in e) ∙ a.made)) few
      ];
      low = λ i h. elim (dec_lt i n) [
        | yes g ↦ t.low i g
        | no g ↦ subst (Low 8) (sym (ap (segment_at q) (let e : i ≡ n = omega arith in e) ∙ a.made)) low
      ];
    }

-- ---- the order of what is made

pub tidy_none : (p : List Cell) → Tidy p 0
tidy_none p = record { begins = λ i h z. absurd (let e : ⊥ = omega arith in e); ends = λ i h z. absurd (let e : ⊥ = omega arith in e) }

pub tidy_front : (p q : List Cell) (n : ℕ) → Tidy p n → take n q ≡ take n p → Tidy q n
tidy_front p q n s e = record {
  begins = λ i h z.
      let b = back_front q p n e i h in
      let x = ap size (segment_front q p n e i h) in
      omega (arith, s.begins i h (let y : 0 < back p i = omega arith in y));
  ends = λ i h z.
      let x = ap size (segment_front q p n e i h) in
      last_front q p n e i h ∙ s.ends i h (let y : 1 < size (segment_at p i) = omega arith in y);
}

-- what is made from n up to m is tidy, where what is made up to n is: the same in pools that agree up to m
pub tidy_kept : (p q : List Cell) (n m : ℕ) → take m q ≡ take m p → n ≤ m → (Tidy p n → Tidy p m) → Tidy q n → Tidy q m
tidy_kept p q n m e h f t = tidy_front p q m (f (tidy_front q p n t (sym (front_less q p m e n h)))) e

pub tidy_more : (p : List Cell) (n : ℕ) → Tidy p n → (0 < back p n → back p n + size (segment_at p n) ≡ n + 1) → (1 < size (segment_at p n) → last_member p n ≡ n)
    → Tidy p (n + 1)
tidy_more p n s b l = record {
  begins = λ i h. elim (dec_lt i n) [
    | yes g ↦ s.begins i g
    | no g ↦ subst (λ (k : ℕ). 0 < back p k → back p k + size (segment_at p k) ≡ k + 1) (let e : n ≡ i = omega arith in e) b
  ];
  ends = λ i h. elim (dec_lt i n) [
    | yes g ↦ s.ends i g
    | no g ↦ subst (λ (k : ℕ). 1 < size (segment_at p k) → last_member p k ≡ k) (let e : n ≡ i = omega arith in e) l
  ];
}
