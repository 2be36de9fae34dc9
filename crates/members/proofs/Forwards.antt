-- Links that lead forward: filled segment by segment, and gone along from member to member. Assumes nothing.
use Prim.Native.Nat.{ℕ, zero, suc, ◌+◌, ◌-◌, ◌≤◌, ◌<◌}
use mathlib.Core.Path.{◌≡◌, refl, sym, ap, subst, ◌∙◌}
use mathlib.Core.List.{List}
use native.Mathlib.Omega.{arith}
use native.Mathlib.Decide.{dec_lt}
use borrow.Author.Tests.{eq-eqb, ne_eqb}
use lib.ListN.{length, length-set}
use lib.Seq.{get_or-set_same, get_or-set_other}
use Rattle.segments.specs.declared.Cell.{Cell}
use Rattle.segments.specs.Pool.{back, Tidy}
use Rattle.segments.proofs.Chains.{back_below}
use Rattle.members.specs.declared.Link.{Link}
use Rattle.members.specs.Links.{back_by, OnChain, FirstMember, link_at, with_first, with_next, linked_by, links_forward, member_after, Forward}
use Rattle.members.proofs.Linking.{by_further, by_below, on_start, on_below, on_before}
use Rattle.members.proofs.Apart.{apart}

-- ---- the two ways of one segment more, and of a look-up

pub linked_first : (links : List Link) (i b : ℕ) → b ≡ 0 → linked_by links i b ≡ with_first links i (i + 1)
unfolding linked_by
linked_first links i b e = rw (eq-eqb b 0 e, linked_by)

pub linked_after : (links : List Link) (i b : ℕ) → (b ≡ 0 → ⊥) → linked_by links i b ≡ with_next (with_first links i (link_at links (b - 1)).first) (b - 1) (i + 1)
unfolding linked_by
linked_after links i b e = rw (ne_eqb b 0 e, linked_by)

pub after_none : (links : List Link) (l j : ℕ) → j ≡ 0 → member_after links l j ≡ (link_at links (l - 1)).first
unfolding member_after
after_none links l j e = rw (eq-eqb j 0 e, member_after)

pub after_some : (links : List Link) (l j : ℕ) → (j ≡ 0 → ⊥) → member_after links l j ≡ (link_at links (j - 1)).next
unfolding member_after
after_some links l j e = rw (ne_eqb j 0 e, member_after)

-- ---- one link written, and the others read

first_length : (links : List Link) (i k : ℕ) → length (with_first links i k) ≡ length links
first_length links i k = length-set links i (record { next = (link_at links i).next; first = k })

next_length : (links : List Link) (i k : ℕ) → length (with_next links i k) ≡ length links
next_length links i k = length-set links i (record { next = k; first = (link_at links i).first })

first_there : (links : List Link) (i k : ℕ) → i < length links → link_at (with_first links i k) i ≡ record { next = (link_at links i).next; first = k }
first_there links i k h = get_or-set_same links i (record { next = (link_at links i).next; first = k }) (record { next = 0; first = 0 }) h

first_else : (links : List Link) (i k j : ℕ) → (j ≡ i → ⊥) → link_at (with_first links i k) j ≡ link_at links j
first_else links i k j h = get_or-set_other links i j (record { next = (link_at links i).next; first = k }) (record { next = 0; first = 0 }) h

next_there : (links : List Link) (i k : ℕ) → i < length links → link_at (with_next links i k) i ≡ record { next = k; first = (link_at links i).first }
next_there links i k h = get_or-set_same links i (record { next = k; first = (link_at links i).first }) (record { next = 0; first = 0 }) h

next_else : (links : List Link) (i k j : ℕ) → (j ≡ i → ⊥) → link_at (with_next links i k) j ≡ link_at links j
next_else links i k j h = get_or-set_other links i j (record { next = k; first = (link_at links i).first }) (record { next = 0; first = 0 }) h

-- a first that is written leaves each next as it was, and the other way round
first_next : (links : List Link) (i k j : ℕ) → i < length links → (link_at (with_first links i k) j).next ≡ (link_at links j).next
first_next links i k j h = elim (dec_lt j i) [
  | yes g ↦ ap (λ (l : Link). l.next) (first_else links i k j (λ e. omega arith))
  | no g ↦ elim (dec_lt i j) [
    | yes f ↦ ap (λ (l : Link). l.next) (first_else links i k j (λ e. omega arith))
    | no f ↦
        let e : i ≡ j = omega arith in
        subst (λ (n : ℕ). (link_at (with_first links i k) n).next ≡ (link_at links n).next) e (ap (λ (l : Link). l.next) (first_there links i k h))
  ]
]

next_first : (links : List Link) (i k j : ℕ) → i < length links → (link_at (with_next links i k) j).first ≡ (link_at links j).first
next_first links i k j h = elim (dec_lt j i) [
  | yes g ↦ ap (λ (l : Link). l.first) (next_else links i k j (λ e. omega arith))
  | no g ↦ elim (dec_lt i j) [
    | yes f ↦ ap (λ (l : Link). l.first) (next_else links i k j (λ e. omega arith))
    | no f ↦
        let e : i ≡ j = omega arith in
        subst (λ (n : ℕ). (link_at (with_next links i k) n).first ≡ (link_at links n).first) e (ap (λ (l : Link). l.first) (next_there links i k h))
  ]
]

linked_length : (links : List Link) (i b : ℕ) → length (linked_by links i b) ≡ length links
linked_length links i b = elim (dec_lt 0 b) [
  | yes p ↦
      ap length (linked_after links i b (λ z. omega arith)) ∙ next_length (with_first links i (link_at links (b - 1)).first) (b - 1) (i + 1)
      ∙ first_length links i (link_at links (b - 1)).first
  | no p ↦ ap length (linked_first links i b (omega arith)) ∙ first_length links i (i + 1)
]

-- the row as it is filled
module _ (cells : List Cell) (links : List Link) where
  pub links_none : links_forward cells links 0 ≡ links
  unfolding links_forward
  links_none = refl

  pub links_more : (i b : ℕ) → b ≡ back cells i → links_forward cells links (i + 1) ≡ linked_by (links_forward cells links i) i b
  unfolding links_forward
  links_more i b e =
      ap (links_forward cells links) (let q : i + 1 ≡ suc i = omega arith in q) ∙ ap (linked_by (links_forward cells links i) i) (sym e)

module _ (cells : List Cell) where
  forward_none : (links : List Link) → Forward cells links 0
  forward_none links = record { room = omega arith; next = λ i h. absurd (let z : ⊥ = omega arith in z); first = λ i h. absurd (let z : ⊥ = omega arith in z) }

  pub forward_less : (links : List Link) (n m : ℕ) → m ≤ n → Forward cells links n → Forward cells links m
  forward_less links n m h o = record { room = omega (arith, o.room); next = λ i g. o.next i (omega arith); first = λ i g. o.first i (omega arith) }

  -- ---- one segment more

  abbrev Next : List Link → ℕ → Type 0
  Next links i = 0 < back cells i → (link_at links (back cells i - 1)).next ≡ i + 1

  abbrev Firsts : List Link → ℕ → Type 0
  Firsts links i = FirstMember cells (i + 1) (link_at links i).first

  module _ (n : ℕ) (t : Tidy cells n) (links : List Link) (i : ℕ) (h : i < n) (o : Forward cells links i) (r : i < length links) where
    more : (a : List Link) → length a ≡ length links → ((j : ℕ) → j < i → Next a j) → Next a i → ((j : ℕ) → j < i → Firsts a j) → Firsts a i → Forward cells a (i + 1)
    more a e f g u v = record {
      room = omega arith;
      next = λ j w. elim (dec_lt j i) [ yes l ↦ f j l | no l ↦ subst (Next a) (let q : i ≡ j = omega arith in q) g ];
      first = λ j w. elim (dec_lt j i) [ yes l ↦ u j l | no l ↦ subst (Firsts a) (let q : i ≡ j = omega arith in q) v ];
    }

    begun : back cells i ≡ 0 → Forward cells (with_first links i (i + 1)) (i + 1)
    begun z = more (with_first links i (i + 1)) (first_length links i (i + 1))
        (λ j g p. first_next links i (i + 1) (back cells j - 1) r ∙ o.next j g p)
        (λ p. omega arith)
        (λ j g. subst (FirstMember cells (j + 1)) (sym (ap (λ (l : Link). l.first) (first_else links i (i + 1) j (λ q. omega arith)))) (o.first j g))
        (subst (FirstMember cells (i + 1)) (sym (ap (λ (l : Link). l.first) (first_there links i (i + 1) r)))
        (record { some = omega arith; on = on_start cells (i + 1); before = ap (back cells) (let q : i + 1 - 1 ≡ i = omega arith in q) ∙ z }))

    joined : (b : ℕ) → 0 < b → b ≡ back cells i → Forward cells (with_next (with_first links i (link_at links (b - 1)).first) (b - 1) (i + 1)) (i + 1)
    joined b p e =
        let l = back_below cells i in
        let x = (link_at links (b - 1)).first in
        let m = with_first links i x in
        let lm = first_length links i x in
        let w : b - 1 < length m = omega arith in
        let a = with_next m (b - 1) (i + 1) in
        let f : FirstMember cells b x = subst (λ (k : ℕ). FirstMember cells k x) (let q : b - 1 + 1 ≡ b = omega arith in q) (o.first (b - 1) (omega arith)) in
        more a (next_length m (b - 1) (i + 1) ∙ lm)
        (λ j g z.
        ap (λ (k : Link). k.next)
        (next_else m (b - 1) (i + 1) (back cells j - 1)
        (λ q. apart cells n t j i g h (let y : 0 < back cells i = omega arith in y) (let y : back cells j ≡ back cells i = omega arith in y)))
        ∙ first_next links i x (back cells j - 1) r ∙ o.next j g z)
        (λ z.
        ap (λ (k : ℕ). (link_at a (k - 1)).next) (sym e)
        ∙ ap (λ (k : Link). k.next) (next_there m (b - 1) (i + 1) w))
        (λ j g.
        subst (FirstMember cells (j + 1))
        (sym (next_first m (b - 1) (i + 1) j w ∙ ap (λ (k : Link). k.first) (first_else links i x j (λ q. omega arith))))
        (o.first j g))
        (subst (FirstMember cells (i + 1))
        (sym (next_first m (b - 1) (i + 1) i w ∙ ap (λ (k : Link). k.first) (first_there links i x r)))
        (record { some = f.some; on = on_before cells i b x e f.on; before = f.before }))

    forward_more : (a : List Link) (b : ℕ) → b ≡ back cells i → a ≡ linked_by links i b → Forward cells a (i + 1)
    forward_more a b e q = elim (dec_lt 0 b) [
      | yes p ↦ subst (λ (k : List Link). Forward cells k (i + 1)) (sym (q ∙ linked_after links i b (λ z. omega arith))) (joined b p e)
      | no p ↦ subst (λ (k : List Link). Forward cells k (i + 1)) (sym (q ∙ linked_first links i b (omega arith))) (begun (omega arith))
    ]

  -- so the row that is filled holds the links of a tidy pool
  pub forward_filled : (n : ℕ) → Tidy cells n → (links : List Link) → n ≤ length links → Forward cells (links_forward cells links n) n
  forward_filled n t links r = (by n (omega arith)).1
    where
      by : (i : ℕ) → i ≤ n → (length (links_forward cells links i) ≡ length links) × Forward cells (links_forward cells links i) i
      by zero h = (ap length (links_none cells links), forward_none (links_forward cells links 0))
      by (suc i) h =
          let o = by i (omega arith) in
          let a = links_forward cells links i in
          let e : links_forward cells links (i + 1) ≡ linked_by a i (back cells i) = links_more cells links i (back cells i) refl in
          let f = forward_more n t a i (omega arith) o.1 (omega (arith, o.0)) (links_forward cells links (i + 1)) (back cells i) refl e in
          subst (λ (k : ℕ). (length (links_forward cells links k) ≡ length links) × Forward cells (links_forward cells links k) k) (let q : i + 1 ≡ suc i = omega arith in q)
          (ap length e ∙ linked_length a i (back cells i) ∙ o.0, f)

  -- ---- from member to member

  -- r is the link to the member after the one that j leads to, among those back from l
  abbrev pub After : ℕ → ℕ → ℕ → Type 0
  After l j r = ((j < r) × (r ≤ l)) × (OnChain cells l r × (back cells (r - 1) ≡ j))

  -- a member that isn't the last has one after it
  on_after : (l j : ℕ) → 0 < j → j < l → OnChain cells l j → (r : ℕ) × After l j r
  unfolding back_by
  on_after l j p h o = by o.count o.leads
    where
      by : (n : ℕ) → back_by cells n l ≡ j → (r : ℕ) × After l j r
      by zero e = absurd (let z : ⊥ = omega arith in z)
      by (suc n) e =
          let r = back_by cells n l in
          let f : back cells (r - 1) ≡ j = sym (by_further cells n l) ∙ e in
          (r, ((omega (arith, back_below cells (r - 1)), by_below cells n l), (record { count = n; leads = refl }, f)))

  pub member_next : (links : List Link) (l j r : ℕ) → Forward cells links l → j < l → OnChain cells l j → r ≡ member_after links l j → After l j r
  member_next links l j r f h o e = elim (dec_lt 0 j) [
    | yes p ↦
        let w = on_after l j p h o in
        let k = w.0 in
        let v = w.1 in
        let q : (link_at links (j - 1)).next ≡ k =
        ap (λ (b : ℕ). (link_at links (b - 1)).next) (sym v.1.1) ∙ f.next (k - 1) (omega (arith, v.0)) (omega (arith, v.1.1))
        ∙ (let z : k - 1 + 1 ≡ k = omega (arith, v.0) in z) in
        subst (After l j) (sym (e ∙ after_some links l j (λ z. omega arith) ∙ q)) v
    | no p ↦
        let w : FirstMember cells l (link_at links (l - 1)).first = subst (λ (k : ℕ). FirstMember cells k (link_at links (l - 1)).first) (let z : l - 1 + 1 ≡ l = omega arith in z) (f.first (l - 1) (omega arith)) in
        let z : j ≡ 0 = omega arith in
        subst (After l j) (sym (e ∙ after_none links l j z))
        ((omega (arith, w.some), on_below cells l (link_at links (l - 1)).first w.on), (w.on, w.before ∙ sym z))
  ]
