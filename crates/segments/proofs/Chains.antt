-- The segments that a pool holds, one by one: members along their links, and each segment by its kind. Assumes nothing.
use Prim.Native.Nat.{ℕ, zero, suc, ◌+◌, ◌≤◌, ◌<◌}
use mathlib.Core.Path.{◌≡◌, refl, sym, ap, ◌∙◌}
use mathlib.Core.List.{List}
use native.Mathlib.Omega.{arith}
use native.Mathlib.Decide.{dec_lt}
use borrow.Author.Tests.{eq-eqb, ne_eqb, le-leb, lt-leb}
use Rattle.words.specs.declared.LogMetadata.{LogMetadata}
use Rattle.segments.specs.declared.Cell.{Cell}
use Rattle.segments.specs.declared.Kind.{Kind}
use Rattle.segments.specs.Segments.{LogSegment, LogSegments, text, specifier, group, none, ◌and_then◌}
use Rattle.segments.specs.Pool.{cell, kind_at, format_at, link_below, back, last_link, last_member, chain_by, segment_as, segment_by, segment_below, segment_at, chain_at}

-- ---- links

pub link_kept : (i l : ℕ) → l ≤ i → link_below i l ≡ l
unfolding link_below
link_kept i l h = rw (le-leb l i h, link_below)

pub link_lost : (i l : ℕ) → i < l → link_below i l ≡ 0
unfolding link_below
link_lost i l h = rw (lt-leb l i h, link_below)

link_below_lem : (i l : ℕ) → link_below i l ≤ i
link_below_lem i l = elim (dec_lt i l) [ yes h ↦ omega (arith, link_lost i l h) | no h ↦ omega (arith, link_kept i l (omega arith)) ]

pub back_below : (cells : List Cell) (i : ℕ) → back cells i ≤ i
unfolding back
back_below cells i = link_below_lem i (cell cells i).link

pub last_below : (cells : List Cell) (i : ℕ) → last_member cells i ≤ i
unfolding last_member
last_below cells i = link_below_lem i (last_link (kind_at cells i))

-- ---- two pools that hold the same at a place

abbrev pub Same : List Cell → List Cell → ℕ → Type 0
Same p q i = cell p i ≡ cell q i

module _ (p q : List Cell) (i : ℕ) (e : Same p q i) where
  pub same_kind : kind_at p i ≡ kind_at q i
  unfolding kind_at
  same_kind = ap (λ (c : Cell). c.kind) e

  pub same_format : format_at p i ≡ format_at q i
  unfolding format_at
  same_format = ap (λ (c : Cell). c.format) e

  pub same_back : back p i ≡ back q i
  unfolding back
  same_back = ap (λ (c : Cell). link_below i c.link) e

  pub same_last : last_member p i ≡ last_member q i
  unfolding last_member
  same_last = ap (λ (k : Kind). link_below i (last_link k)) same_kind

  same_as : (s : LogSegments) (k : Kind) → segment_as p i s k ≡ segment_as q i s k
  unfolding segment_as
  same_as s (Kind.Text from to) = refl
  same_as s (Kind.Group last) = ap (group s) same_format
  same_as s (Kind.Specifier m) = ap (specifier m) same_format

-- ---- members along their links

module _ (at : ℕ → LogSegment) (p : List Cell) where
  chain_at_lem : (b l : ℕ) → l ≡ b + 1 → chain_by at p (suc b) l ≡ chain_by at p b (back p b) and_then at b
  unfolding chain_by
  chain_at_lem b l e = rw (eq-eqb l (b + 1) e, chain_by)

  chain_up : (b l : ℕ) → (l ≡ b + 1 → ⊥) → chain_by at p (suc b) l ≡ chain_by at p b l
  unfolding chain_by
  chain_up b l e = rw (ne_eqb l (b + 1) e, chain_by)

  -- a bound above the link doesn't matter
  chain_less : (b l : ℕ) → l ≤ b → chain_by at p b l ≡ chain_by at p l l
  chain_less zero l h = ap (λ (b : ℕ). chain_by at p b l) (let q : 0 ≡ l = omega arith in q)
  chain_less (suc b) l h = elim (dec_lt b l) [
    | yes g ↦ ap (λ (c : ℕ). chain_by at p c l) (let q : suc b ≡ l = omega arith in q)
    | no g ↦ chain_up b l (λ e. omega arith) ∙ chain_less b l (omega arith)
  ]

-- only the segments and the links below the bound matter
chain_of : (f g : ℕ → LogSegment) (p q : List Cell) (b l : ℕ) → ((i : ℕ) → i < b → f i ≡ g i) → ((i : ℕ) → i < b → back p i ≡ back q i) → chain_by f p b l ≡ chain_by g q b l
unfolding chain_by
chain_of f g p q zero l h r = refl
chain_of f g p q (suc b) l h r = elim (dec_lt b l) [
  | yes u ↦ elim (dec_lt (b + 1) l) [
    | yes v ↦ chain_up f p b l (λ e. omega arith) ∙ chain_of f g p q b l (λ i w. h i (omega arith)) (λ i w. r i (omega arith)) ∙ sym (chain_up g q b l (λ e. omega arith))
    | no v ↦
        let e : l ≡ b + 1 = omega arith in
        chain_at_lem f p b l e
        ∙ ap (λ (s : LogSegments). s and_then f b) (chain_of f g p q b (back p b) (λ i w. h i (omega arith)) (λ i w. r i (omega arith)))
        ∙ ap (λ (k : ℕ). chain_by g q b k and_then f b) (r b (omega arith))
        ∙ ap (λ (x : LogSegment). chain_by g q b (back q b) and_then x) (h b (omega arith))
        ∙ sym (chain_at_lem g q b l e)
  ]
  | no u ↦ chain_up f p b l (λ e. omega arith) ∙ chain_of f g p q b l (λ i w. h i (omega arith)) (λ i w. r i (omega arith)) ∙ sym (chain_up g q b l (λ e. omega arith))
]

-- ---- segments

by_same : (f g : ℕ → LogSegment) (p q : List Cell) (i : ℕ) → Same p q i → ((j : ℕ) → j < i → f j ≡ g j) → ((j : ℕ) → j < i → back p j ≡ back q j) → segment_by f p i ≡ segment_by g q i
unfolding segment_by
by_same f g p q i e h r =
    ap (segment_as p i (chain_by f p i (last_member p i))) (same_kind p q i e)
    ∙ ap (λ (l : ℕ). segment_as p i (chain_by f p i l) (kind_at q i)) (same_last p q i e)
    ∙ ap (λ (s : LogSegments). segment_as p i s (kind_at q i)) (chain_of f g p q i (last_member q i) h r)
    ∙ same_as p q i e (chain_by g q i (last_member q i)) (kind_at q i)

below_at : (p : List Cell) (b i : ℕ) → i ≡ b → segment_below p (suc b) i ≡ segment_by (segment_below p b) p b
unfolding segment_below
below_at p b i e = rw (eq-eqb i b e, segment_below)

below_up : (p : List Cell) (b i : ℕ) → (i ≡ b → ⊥) → segment_below p (suc b) i ≡ segment_below p b i
unfolding segment_below
below_up p b i e = rw (ne_eqb i b e, segment_below)

below_same : (p q : List Cell) (b i : ℕ) → i < b → ((j : ℕ) → j < b → Same p q j) → segment_below p b i ≡ segment_below q b i
below_same p q zero i h e = absurd (let z : ⊥ = omega arith in z)
below_same p q (suc b) i h e = elim (dec_lt i b) [
  | yes g ↦ below_up p b i (λ z. omega arith) ∙ below_same p q b i g (λ j w. e j (omega arith)) ∙ sym (below_up q b i (λ z. omega arith))
  | no g ↦
      let s : i ≡ b = omega arith in
      below_at p b i s
      ∙ by_same (segment_below p b) (segment_below q b) p q b (e b (omega arith)) (λ j w. below_same p q b j w (λ m v. e m (omega arith))) (λ j w. same_back p q j (e j (omega arith)))
      ∙ sym (below_at q b i s)
]

-- the segment at a place depends on what stands up to that place only
pub same_segment : (p q : List Cell) (i : ℕ) → ((j : ℕ) → j ≤ i → Same p q j) → segment_at p i ≡ segment_at q i
unfolding segment_at
same_segment p q i e = below_same p q (suc i) i (omega arith) (λ j h. e j (omega arith))

pub same_chain : (p q : List Cell) (l : ℕ) → ((j : ℕ) → j < l → Same p q j) → chain_at p l ≡ chain_at q l
unfolding chain_at
same_chain p q l e =
    chain_of (segment_at p) (segment_at q) p q l l (λ i h. same_segment p q i (λ j g. e j (omega arith))) (λ i h. same_back p q i (e i h))

module _ (p : List Cell) where
  below_is : (b i : ℕ) → i < b → segment_below p b i ≡ segment_at p i
  unfolding segment_at
  below_is zero i h = absurd (let z : ⊥ = omega arith in z)
  below_is (suc b) i h = elim (dec_lt i b) [
    | yes g ↦ below_up p b i (λ e. omega arith) ∙ below_is b i g
    | no g ↦ ap (λ (n : ℕ). segment_below p (suc n) i) (let e : b ≡ i = omega arith in e)
  ]

  pub chain_none : chain_at p 0 ≡ none
  unfolding chain_at chain_by
  chain_none = refl

  pub chain_step : (m : ℕ) → chain_at p (m + 1) ≡ chain_at p (back p m) and_then segment_at p m
  unfolding chain_at
  chain_step m =
      ap (λ (b : ℕ). chain_by (segment_at p) p b (m + 1)) (let e : m + 1 ≡ suc m = omega arith in e)
      ∙ chain_at_lem (segment_at p) p m (m + 1) refl
      ∙ ap (λ (s : LogSegments). s and_then segment_at p m) (chain_less (segment_at p) p m (back p m) (back_below p m))

  -- a segment is what its kind says, a group's members those back from its link
  pub segment_is : (i : ℕ) → segment_at p i ≡ segment_as p i (chain_at p (last_member p i)) (kind_at p i)
  unfolding segment_at segment_by chain_at
  segment_is i =
      below_at p i i refl
      ∙ ap (λ (s : LogSegments). segment_as p i s (kind_at p i))
      (chain_of (segment_below p i) (segment_at p) p p i (last_member p i) (below_is i) (λ j h. refl) ∙ chain_less (segment_at p) p i (last_member p i) (last_below p i))

  pub segment_text_lem : (i : ℕ) {from to : ℕ} → kind_at p i ≡ Kind.Text from to → segment_at p i ≡ text from to
  unfolding segment_as
  segment_text_lem i k = segment_is i ∙ ap (segment_as p i (chain_at p (last_member p i))) k

  pub segment_group : (i : ℕ) {last : ℕ} → kind_at p i ≡ Kind.Group last → segment_at p i ≡ group (chain_at p (last_member p i)) (format_at p i)
  unfolding segment_as
  segment_group i k = segment_is i ∙ ap (segment_as p i (chain_at p (last_member p i))) k

  pub segment_specifier : (i : ℕ) (m : LogMetadata) → kind_at p i ≡ Kind.Specifier m → segment_at p i ≡ specifier m (format_at p i)
  unfolding segment_as
  segment_specifier i m k = segment_is i ∙ ap (segment_as p i (chain_at p (last_member p i))) k
