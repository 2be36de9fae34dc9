-- Values between their marks. Assumes nothing.
use Rattle.std.specs.Prelude.{Some, None}
use mathlib.Core.Path.{◌≡◌, refl, ap, sym, ◌∙◌}
use mathlib.Core.Bool.{Bool, true, false, ◌&&◌}
use mathlib.Core.List.{List, [], ◌∷◌, ◌++◌}
use Prim.Native.Nat.{ℕ, ◌+◌, ◌-◌, ◌<◌, ◌≤◌}
use native.Mathlib.Omega.{arith}
use lib.Dec.{eqb, leb}
use lib.ListN.{length, take, drop, get_or}
use lib.Seq.{take-take, drop_at}
use borrow.Author.Tests.{eqb-true, eqb-false, eq-eqb, ne_eqb, le-leb, lt-leb}
use Rattle.buffer.specs.Bytes.{bytes, part, same}
use Rattle.buffer.specs.Table.{Maybe, none, some}
use Rattle.buffer.proofs.Parts.{part_length, part_snoc}
use Rattle.colour.specs.Sequences.{starts_with}
use Rattle.comparisons.specs.Comparisons.{lines, joined_by_newline, Comparison, ends_with, value_in, comparing, comparison, layout}
use Rattle.comparisons.specs.Places.{by_ending, value_between, placed, layout_by, layout_for, SpansOf}
use Rattle.comparisons.specs.declared.LastTwo.{LastTwo}
use Rattle.comparisons.specs.declared.Span.{Span}
use Rattle.comparisons.specs.declared.Spans.{Spans}
use Rattle.comparisons.proofs.Parts.{part_join}

-- ---- tests

third_fails : (a b c : Bool) → c ≡ false → (a && b && c) ≡ false
third_fails true true c e = e
third_fails true false c e = refl
third_fails false true c e = refl
third_fails false false c e = refl

second_fails : (a b c : Bool) → b ≡ false → (a && b && c) ≡ false
second_fails true true c e = cc
second_fails true false c e = refl
second_fails false true c e = refl
second_fails false false c e = refl

first_decides : (a b c : Bool) → b ≡ true → c ≡ true → (a && b && c) ≡ a
first_decides true b c e f = ap (λ (t : Bool). true && t && c) e ∙ ap (λ (t : Bool). true && true && t) f
first_decides false b c e f = ap (λ (t : Bool). false && t && c) e ∙ ap (λ (t : Bool). false && true && t) f

eqb_turned : (a b : ℕ) → eqb a b ≡ eqb b a
eqb_turned a b = by (eqb a b) refl
  where
    by : (t : Bool) → eqb a b ≡ t → t ≡ eqb b a
    by true e = sym (eq-eqb b a (sym (eqb-true a b e)))
    by false e = sym (ne_eqb b a (λ q. eqb-false a b e (sym q)))

-- ---- beginnings and ends

starts_same : (m x : List ℕ) → length m ≤ length x → starts_with m x ≡ same m (take (length m) x)
unfolding starts_with same
starts_same [] x h = refl
starts_same (a ∷ m) [] h = refl
starts_same (a ∷ m) (b ∷ x) h =
    ap (λ (t : Bool). elim t [ true ↦ starts_with m x | false ↦ false ]) (eqb_turned b a)
    ∙ ap (λ (u : Bool). elim (eqb a b) [ true ↦ u | false ↦ false ]) (starts_same m x (omega arith))

ends_snoc : (s : List ℕ) (b c : ℕ) → ends_with b (s ++ c ∷ []) ≡ eqb c b
unfolding ends_with
ends_snoc [] b c = refl
ends_snoc (a ∷ []) b c = refl
ends_snoc (a ∷ (e ∷ s)) b c = ends_snoc (e ∷ s) b c

pub ends_at : (d : List ℕ) (i e b : ℕ) → i < e → e ≤ length d → ends_with b (part i e d) ≡ eqb (get_or d (e - 1) 0) b
ends_at d i e b h g =
    let q : e ≡ (e - 1) + 1 = omega arith in
    ap (λ (j : ℕ). ends_with b (part i j d)) q
    ∙ ap (ends_with b) (part_snoc d i (e - 1) (omega arith) (omega arith))
    ∙ ends_snoc (part i (e - 1) d) b (get_or d (e - 1) 0)

-- ---- a value

none_by : (mark x : List ℕ) → (starts_with mark x && ends_with 0x60 x && leb (length mark + 1) (length x)) ≡ false → value_in mark x ≡ none
unfolding value_in
none_by mark x e = ap (λ (t : Bool). elim t [ true ↦ some (take (length x - (length mark + 1)) (drop (length mark) x)) | false ↦ none ]) e

-- a line that doesn't end with a backquote holds no value
pub no_value_ended : (mark x : List ℕ) → ends_with 0x60 x ≡ false → value_in mark x ≡ none
no_value_ended mark x e = none_by mark x (second_fails (starts_with mark x) (ends_with 0x60 x) (leb (length mark + 1) (length x)) e)

no_value : (d : List ℕ) → value_between d None ≡ none
unfolding value_between
no_value d = refl

pub too_short : (d mark : List ℕ) (i e : ℕ) → i ≤ e → e ≤ length d → length mark ≡ 8 → e - i < 9 → value_between d None ≡ value_in mark (part i e d)
too_short d mark i e h g m s =
    let l = part_length d i e h g in
    no_value d ∙ sym (none_by mark (part i e d) (third_fails (starts_with mark (part i e d)) (ends_with 0x60 (part i e d)) _ (lt-leb (length mark + 1) (length (part i e d)) (omega arith))))

pub no_mark : (d mark : List ℕ) (i e : ℕ) → i < e → e ≤ length d → (get_or d (e - 1) 0 ≡ 0x60 → ⊥) → value_between d None ≡ value_in mark (part i e d)
no_mark d mark i e h g n =
    no_value d
    ∙ sym (none_by mark (part i e d) (second_fails (starts_with mark (part i e d)) (ends_with 0x60 (part i e d)) _ (ends_at d i e 0x60 h g ∙ ne_eqb (get_or d (e - 1) 0) 0x60 n)))

value_by_lem : (mark x : List ℕ) (t : Bool) (v : List ℕ) → (starts_with mark x && ends_with 0x60 x && leb (length mark + 1) (length x)) ≡ t → take (length x - (length mark + 1)) (drop (length mark) x) ≡ v
    → value_in mark x ≡ elim t [ true ↦ some v | false ↦ none ]
unfolding value_in
value_by_lem mark x t v e f =
    ap (λ (u : Bool). elim u as (λ (_ : Bool). Maybe (List ℕ)) [ true ↦ some (take (length x - (length mark + 1)) (drop (length mark) x)) | false ↦ none ]) e
    ∙ ap (λ (w : List ℕ). elim t as (λ (_ : Bool). Maybe (List ℕ)) [ true ↦ some w | false ↦ none ]) f

a_value : (d : List ℕ) (v : Span) → value_between d (Some v) ≡ some (part v.from v.to d)
unfolding value_between
a_value d v = refl

inner : (d : List ℕ) (i e n m : ℕ) → i + 9 ≤ e → e ≤ length d → n ≡ e - i → m ≡ 8 → take (n - (m + 1)) (drop m (part i e d)) ≡ part (i + 8) (e - 1) d
inner d i e n m h g q o =
    let l : length (part i (i + 8) d) ≡ m = part_length d i (i + 8) (omega arith) (omega arith) ∙ omega arith in
    let k : n - (m + 1) ≡ e - 1 - (i + 8) = omega arith in
    ap (λ (s : List ℕ). take (n - (m + 1)) (drop m s)) (sym (part_join d i (i + 8) e (omega arith) (omega arith)))
    ∙ ap (take (n - (m + 1))) (drop_at (part i (i + 8) d) (part (i + 8) e d) m l)
    ∙ take-take (n - (m + 1)) (e - (i + 8)) (drop (i + 8) d) (omega arith)
    ∙ ap (λ (j : ℕ). take j (drop (i + 8) d)) k

value_is : (d mark : List ℕ) (i e : ℕ) → i + 9 ≤ e → e ≤ length d → length mark ≡ 8 → get_or d (e - 1) 0 ≡ 0x60
    → (t : Bool) → same mark (part i (i + 8) d) ≡ t → value_in mark (part i e d) ≡ elim t [ true ↦ some (part (i + 8) (e - 1) d) | false ↦ none ]
value_is d mark i e h g m q b o =
    let x = part i e d in
    let l : length x ≡ e - i = part_length d i e (omega arith) g in
    let t : take (length mark) x ≡ part i (i + 8) d =
    (let k : length mark ≡ i + 8 - i = omega arith in
    take-take (length mark) (e - i) (drop i d) (omega arith) ∙ ap (λ (j : ℕ). take j (drop i d)) k) in
    let s : starts_with mark x ≡ same mark (part i (i + 8) d) = starts_same mark x (omega arith) ∙ ap (same mark) t in
    value_by_lem mark x b (part (i + 8) (e - 1) d)
    (first_decides (starts_with mark x) (ends_with 0x60 x) (leb (length mark + 1) (length x)) (ends_at d i e 0x60 (omega arith) g ∙ eq-eqb _ 0x60 q) (le-leb (length mark + 1) (length x) (omega arith)) ∙ s ∙ o)
    (inner d i e (length x) (length mark) h g l m)

pub value_there : (d mark : List ℕ) (i e : ℕ) → i + 9 ≤ e → e ≤ length d → length mark ≡ 8 → get_or d (e - 1) 0 ≡ 0x60 → same mark (part i (i + 8) d) ≡ true
    → value_between d (Some (record { from = i + 8; to = e - 1 })) ≡ value_in mark (part i e d)
value_there d mark i e h g m q o = a_value d _ ∙ sym (value_is d mark i e h g m q true o)

pub no_value_there : (d mark : List ℕ) (i e : ℕ) → i + 9 ≤ e → e ≤ length d → length mark ≡ 8 → get_or d (e - 1) 0 ≡ 0x60 → same mark (part i (i + 8) d) ≡ false
    → value_between d None ≡ value_in mark (part i e d)
no_value_there d mark i e h g m q o = no_value d ∙ sym (value_is d mark i e h g m q false o)

-- ---- the comparison

pub nothing_few : (d : List ℕ) (from : ℕ) (m : List ℕ) → by_ending d from None ≡ comparison m → layout_by d from None ≡ layout_for (comparison m)
unfolding by_ending layout_by layout_for
nothing_few d from m e = ap layout_for e

compared_none : (h : List (List ℕ)) (r : Maybe (List ℕ)) → comparing h none r ≡ none
unfolding comparing
compared_none h r = refl

pub none_compared : (h : List (List ℕ)) (l : Maybe (List ℕ)) → comparing h l none ≡ none
unfolding comparing
none_compared h none = refl
none_compared h (some l) = refl

module _ (d : List ℕ) (from : ℕ) (m : List ℕ) (p : LastTwo) (e : by_ending d from (Some p) ≡ comparison m) where
  opened : comparing (lines (part from p.left.from d)) (value_in (bytes " left: `") (part p.left.from p.left.to d)) (value_in (bytes "right: `") (part p.right.from p.right.to d)) ≡ comparison m
  unfolding by_ending
  opened = e

  both_compared : (h : List (List ℕ)) (l r : List ℕ) → comparing h (some l) (some r) ≡ some (record { head = joined_by_newline h; left = l; right = r })
  unfolding comparing
  both_compared h l r = refl

  for_none : layout_by d from None ≡ layout_for none
  unfolding layout_by layout_for
  for_none = refl

  pub nothing_left : value_between d None ≡ value_in (bytes " left: `") (part p.left.from p.left.to d) → layout_by d from None ≡ layout_for (comparison m)
  nothing_left v =
      for_none ∙ ap layout_for (sym (sym opened ∙ ap (λ (l : Maybe (List ℕ)). comparing (lines (part from p.left.from d)) l (value_in (bytes "right: `") (part p.right.from p.right.to d))) (sym v ∙ no_value d) ∙ compared_none _ _))

  pub nothing_right : value_between d None ≡ value_in (bytes "right: `") (part p.right.from p.right.to d) → layout_by d from None ≡ layout_for (comparison m)
  nothing_right v =
      for_none ∙ ap layout_for (sym (sym opened ∙ ap (λ (l : Maybe (List ℕ)). comparing (lines (part from p.left.from d)) (value_in (bytes " left: `") (part p.left.from p.left.to d)) l) (sym v ∙ no_value d) ∙ none_compared _ _))

  at_is : (s : Spans) (c : Comparison) → placed (joined_by_newline (lines (part from s.head d))) d s ≡ layout c → layout_by d from (Some s) ≡ layout_for (some c)
  unfolding layout_by layout_for
  at_is s c q = ap some q

  pub both : (s : Spans) (x y : Span) → value_between d (Some x) ≡ value_in (bytes " left: `") (part p.left.from p.left.to d)
      → value_between d (Some y) ≡ value_in (bytes "right: `") (part p.right.from p.right.to d)
      → SpansOf d p.left.from x.from x.to y.from y.to s
      → layout_by d from (Some s) ≡ layout_for (comparison m)
  both s x y v w q =
      let h = lines (part from p.left.from d) in
      let l = part x.from x.to d in
      let r = part y.from y.to d in
      let c : Comparison = record { head = joined_by_newline h; left = l; right = r } in
      let is : comparison m ≡ some c =
      sym opened
      ∙ ap (λ (z : Maybe (List ℕ)). comparing h z (value_in (bytes "right: `") (part p.right.from p.right.to d))) (sym v ∙ a_value d x)
      ∙ ap (λ (z : Maybe (List ℕ)). comparing h (some l) z) (sym w ∙ a_value d y)
      ∙ both_compared h l r in
      at_is s c (ap (λ (j : ℕ). placed (joined_by_newline (lines (part from j d))) d s) q.head_is ∙ q.laid (joined_by_newline h)) ∙ ap layout_for (sym is)

pub nothing_said : (d : List ℕ) (from : ℕ) (m : List ℕ) → comparison m ≡ none → layout_by d from None ≡ layout_for (comparison m)
unfolding layout_by layout_for
nothing_said d from m e = sym (ap layout_for e)
