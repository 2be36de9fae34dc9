-- What two texts share, from the front and from the back, turn by turn. Assumes nothing.
use lib.Pointwise.{pointwise}
use mathlib.Core.Path.{◌≡◌, refl, ap, sym, ◌∙◌}
use mathlib.Core.Bool.{Bool, true, false, not, ◌&&◌}
use lib.Dec.{eqb}
use mathlib.Core.List.{List, [], ◌∷◌, ◌++◌, append_assoc, append-nil}
use Prim.Native.Nat.{ℕ, suc, ◌+◌, ◌-◌, ◌<◌, ◌≤◌}
use native.Mathlib.Omega.{arith}
use lib.ListN.{length, take, drop, length-append, length-drop}
use lib.Seq.{take-append-le, drop-append-le, take-length, drop-length, drop-drop}
use Rattle.buffer.specs.Bytes.{part, same}
use Rattle.buffer.proofs.Parts.{part_end}
use Rattle.comparisons.specs.Comparisons.{characters, all_of, shared, backwards}
use Rattle.comparisons.specs.Places.{Beginning, shared_end, End}
use Rattle.comparisons.proofs.Parts.{part_join, part_none}
use Rattle.comparisons.proofs.Splitting.{all_characters, characters_nil}

-- ---- `shared`, `backwards`, `all_of`

pub shared_none : (y : List (List ℕ)) → shared [] y ≡ 0
unfolding shared
shared_none [] = refl
shared_none (b ∷ y) = refl

pub none_shared : (x : List (List ℕ)) → shared x [] ≡ 0
unfolding shared
none_shared [] = refl
none_shared (a ∷ x) = refl

pub shared_more : (a b : List ℕ) (x y : List (List ℕ)) → same a b ≡ true → shared (a ∷ x) (b ∷ y) ≡ suc (shared x y)
unfolding shared
shared_more a b x y e = rw (e, shared)

pub shared_no_more : (a b : List ℕ) (x y : List (List ℕ)) → same a b ≡ false → shared (a ∷ x) (b ∷ y) ≡ 0
unfolding shared
shared_no_more a b x y e = rw (e, shared)

shared_most : (x y : List (List ℕ)) → (shared x y ≤ length x) × (shared x y ≤ length y)
unfolding shared
shared_most [] [] = (omega arith, omega arith)
shared_most [] (b ∷ y) = (omega arith, omega arith)
shared_most (a ∷ x) [] = (omega arith, omega arith)
shared_most (a ∷ x) (b ∷ y) = by (same a b) (shared_most x y)
  where
    by : (t : Bool) → (shared x y ≤ length x) × (shared x y ≤ length y)
        → (elim t [ true ↦ suc (shared x y) | false ↦ 0 ] ≤ length (a ∷ x)) × (elim t [ true ↦ suc (shared x y) | false ↦ 0 ] ≤ length (b ∷ y))
    by true h = (omega (arith, h.0), omega (arith, h.1))
    by false h = (omega arith, omega arith)

backwards_snoc : (x : List (List ℕ)) (a : List ℕ) → backwards (x ++ a ∷ []) ≡ a ∷ backwards x
unfolding backwards
backwards_snoc [] a = refl
backwards_snoc (b ∷ x) a = ap (λ (z : List (List ℕ)). z ++ b ∷ []) (backwards_snoc x a)

length_backwards : (x : List (List ℕ)) → length (backwards x) ≡ length x
unfolding backwards
length_backwards [] = refl
length_backwards (a ∷ x) = omega (arith, length-append (backwards x) (a ∷ []), length_backwards x)

all_append : (x y : List (List ℕ)) → all_of (x ++ y) ≡ all_of x ++ all_of y
unfolding all_of
all_append [] y = refl
all_append (a ∷ x) y = ap (λ (s : List ℕ). a ++ s) (all_append x y) ∙ sym (append_assoc a (all_of x) (all_of y))

all_nil : all_of [] ≡ []
unfolding all_of
all_nil = refl

all_one : (a : List ℕ) → all_of (a ∷ []) ≡ a
unfolding all_of
all_one a = append-nil a

all_cons : (a : List ℕ) (x : List (List ℕ)) → all_of (a ∷ x) ≡ a ++ all_of x
unfolding all_of
all_cons a x = refl

-- ---- from the front

-- one text: n characters of it all, m of what is left at p
pub record Front (d : List ℕ) (i e p n m : ℕ) : Type 0 where
  pub shares : all_of (take n (characters (part i e d))) ≡ part i p d ++ all_of (take m (characters (part p e d)))
  pub remains : drop n (characters (part i e d)) ≡ drop m (characters (part p e d))

front_start : (d : List ℕ) (i e n : ℕ) → Front d i e i n n
front_start d i e n = record {
  shares = ap (λ (s : List ℕ). s ++ all_of (take n (characters (part i e d)))) (sym (part_end d i));
  remains = refl;
}

front_turn : (d : List ℕ) (i e p p' n m m' : ℕ) → i ≤ p → p ≤ p' → Front d i e p n m → characters (part p e d) ≡ part p p' d ∷ characters (part p' e d) → m ≡ suc m'
    → Front d i e p' n m'
front_turn d i e p p' n m m' h g f c k = record {
  shares = f.shares
      ∙ ap (λ (x : List (List ℕ)). part i p d ++ all_of (take m x)) c
      ∙ ap (λ (j : ℕ). part i p d ++ all_of (take j (part p p' d ∷ characters (part p' e d)))) k
      ∙ ap (λ (s : List ℕ). part i p d ++ s) (all_cons (part p p' d) (take m' (characters (part p' e d))))
      ∙ sym (append_assoc (part i p d) (part p p' d) (all_of (take m' (characters (part p' e d)))))
      ∙ ap (λ (s : List ℕ). s ++ all_of (take m' (characters (part p' e d)))) (part_join d i p p' h g);
  remains = f.remains ∙ ap (drop m) c ∙ ap (λ (j : ℕ). drop j (part p p' d ∷ characters (part p' e d))) k;
}

front_stop : (d : List ℕ) (i e p n m : ℕ) → Front d i e p n m → m ≡ 0 → (all_of (take n (characters (part i e d))) ≡ part i p d) × (drop n (characters (part i e d)) ≡ characters (part p e d))
front_stop d i e p n m f z = (
  f.shares ∙ ap (λ (j : ℕ). part i p d ++ all_of (take j (characters (part p e d)))) z ∙ ap (λ (s : List ℕ). part i p d ++ s) all_nil ∙ append-nil (part i p d),
  f.remains ∙ ap (λ (j : ℕ). drop j (characters (part p e d))) z,
)

-- both texts
abbrev pub shared_at : List ℕ → ℕ → ℕ → ℕ → ℕ → ℕ
shared_at d i e j f = shared (characters (part i e d)) (characters (part j f d))

pub record Begun (d : List ℕ) (i e j f p q : ℕ) : Type 0 where
  pub left_inside : (i ≤ p) × (p ≤ e)
  pub right_inside : (j ≤ q) × (q ≤ f)
  pub left : Front d i e p (shared_at d i e j f) (shared_at d p e q f)
  pub right : Front d j f q (shared_at d i e j f) (shared_at d p e q f)

pub begun_start : (d : List ℕ) (i e j f : ℕ) → i ≤ e → j ≤ f → Begun d i e j f i j
begun_start d i e j f h g = record { left_inside = (omega arith, h); right_inside = (omega arith, g); left = front_start d i e _; right = front_start d j f _ }

pub begun_turn : (d : List ℕ) (i e j f p q p' q' : ℕ) → Begun d i e j f p q
    → ((p < p') × (p' ≤ e)) × (characters (part p e d) ≡ part p p' d ∷ characters (part p' e d))
    → ((q < q') × (q' ≤ f)) × (characters (part q f d) ≡ part q q' d ∷ characters (part q' f d))
    → same (part p p' d) (part q q' d) ≡ true → Begun d i e j f p' q'
begun_turn d i e j f p q p' q' b x y s =
    let m : shared_at d p e q f ≡ suc (shared_at d p' e q' f) =
    ap (λ (z : List (List ℕ)). shared z (characters (part q f d))) x.1
    ∙ ap (λ (z : List (List ℕ)). shared (part p p' d ∷ characters (part p' e d)) z) y.1
    ∙ shared_more (part p p' d) (part q q' d) (characters (part p' e d)) (characters (part q' f d)) s in
    record {
      left_inside = (omega (arith, b.left_inside.0, x.0.0), x.0.1);
      right_inside = (omega (arith, b.right_inside.0, y.0.0), y.0.1);
      left = front_turn d i e p p' _ _ _ b.left_inside.0 (omega (arith, x.0.0)) b.left x.1 m;
      right = front_turn d j f q q' _ _ _ b.right_inside.0 (omega (arith, y.0.0)) b.right y.1 m;
    }

pub begun_stop : (d : List ℕ) (i e j f p q : ℕ) → Begun d i e j f p q → shared_at d p e q f ≡ 0 → Beginning d i e j f (record { left = p; right = q })
begun_stop d i e j f p q b z =
    let l = front_stop d i e p _ _ b.left z in
    let r = front_stop d j f q _ _ b.right z in
    record { left_inside = b.left_inside; right_inside = b.right_inside; left_shared = l.0; right_shared = r.0; left_remains = l.1; right_remains = r.1 }

pub stop_left : (d : List ℕ) (p e q f : ℕ) → e ≤ p → shared_at d p e q f ≡ 0
stop_left d p e q f h = ap (λ (z : List (List ℕ)). shared z (characters (part q f d))) (ap characters (part_none d p e h) ∙ characters_nil) ∙ shared_none _

pub stop_right : (d : List ℕ) (p e q f : ℕ) → f ≤ q → shared_at d p e q f ≡ 0
stop_right d p e q f h = ap (λ (z : List (List ℕ)). shared (characters (part p e d)) z) (ap characters (part_none d q f h) ∙ characters_nil) ∙ none_shared _

pub stop_other : (d : List ℕ) (p e q f p' q' : ℕ) → characters (part p e d) ≡ part p p' d ∷ characters (part p' e d) → characters (part q f d) ≡ part q q' d ∷ characters (part q' f d)
    → same (part p p' d) (part q q' d) ≡ false → shared_at d p e q f ≡ 0
stop_other d p e q f p' q' x y s =
    ap (λ (z : List (List ℕ)). shared z (characters (part q f d))) x
    ∙ ap (λ (z : List (List ℕ)). shared (part p p' d ∷ characters (part p' e d)) z) y
    ∙ shared_no_more (part p p' d) (part q q' d) (characters (part p' e d)) (characters (part q' f d)) s

-- ---- from the back

pub record Back (d : List ℕ) (i e p n m : ℕ) : Type 0 where
  pub middle : take (length (characters (part i e d)) - n) (characters (part i e d)) ≡ take (length (characters (part i p d)) - m) (characters (part i p d))
  pub shares : all_of (drop (length (characters (part i e d)) - n) (characters (part i e d))) ≡ all_of (drop (length (characters (part i p d)) - m) (characters (part i p d))) ++ part p e d

back_start : (d : List ℕ) (i e n : ℕ) → Back d i e e n n
back_start d i e n = record {
  middle = refl;
  shares = sym (append-nil _) ∙ ap (λ (s : List ℕ). all_of (drop (length (characters (part i e d)) - n) (characters (part i e d))) ++ s) (sym (part_end d e));
}

back_turn : (d : List ℕ) (i e p p' n m m' : ℕ) → p' ≤ p → p ≤ e → Back d i e p n m → characters (part i p d) ≡ characters (part i p' d) ++ part p' p d ∷ [] → m ≡ suc m'
    → Back d i e p' n m'
back_turn d i e p p' n m m' h g f c k =
    let u = characters (part i p' d) in
    let a = part p' p d in
    let w : length (u ++ a ∷ []) - m ≡ length u - m' = omega (arith, length-append u (a ∷ []), k) in
    let l : length u - m' ≤ length u = omega arith in
    record {
      middle = f.middle
          ∙ ap (λ (x : List (List ℕ)). take (length x - m) x) c
          ∙ ap (λ (j : ℕ). take j (u ++ a ∷ [])) w
          ∙ take-append-le (length u - m') u (a ∷ []) l;
      shares = f.shares
          ∙ ap (λ (x : List (List ℕ)). all_of (drop (length x - m) x) ++ part p e d) c
          ∙ ap (λ (j : ℕ). all_of (drop j (u ++ a ∷ [])) ++ part p e d) w
          ∙ ap (λ (x : List (List ℕ)). all_of x ++ part p e d) (drop-append-le (length u - m') u (a ∷ []) l)
          ∙ ap (λ (s : List ℕ). s ++ part p e d) (all_append (drop (length u - m') u) (a ∷ []) ∙ ap (λ (s : List ℕ). all_of (drop (length u - m') u) ++ s) (all_one a))
          ∙ append_assoc (all_of (drop (length u - m') u)) a (part p e d)
          ∙ ap (λ (s : List ℕ). all_of (drop (length u - m') u) ++ s) (part_join d p' p e h g);
    }

back_stop : (d : List ℕ) (i e p n m : ℕ) → Back d i e p n m → m ≡ 0
    → (all_of (take (length (characters (part i e d)) - n) (characters (part i e d))) ≡ part i p d) × (all_of (drop (length (characters (part i e d)) - n) (characters (part i e d))) ≡ part p e d)
back_stop d i e p n m f z =
    let u = characters (part i p d) in
    let w : length u - m ≡ length u = omega (arith, z) in (
      ap all_of (f.middle ∙ ap (λ (j : ℕ). take j u) w ∙ take-length u) ∙ all_characters (part i p d),
      f.shares ∙ ap (λ (j : ℕ). all_of (drop j u) ++ part p e d) w ∙ ap (λ (x : List (List ℕ)). all_of x ++ part p e d) (drop-length u) ∙ ap (λ (s : List ℕ). s ++ part p e d) all_nil,
    )

abbrev pub end_at : List ℕ → ℕ → ℕ → ℕ → ℕ → ℕ
end_at d i e j f = shared_end (characters (part i e d)) (characters (part j f d))

pub record Rested (d : List ℕ) (i e j f p q : ℕ) : Type 0 where
  pub left_inside : (i ≤ p) × (p ≤ e)
  pub right_inside : (j ≤ q) × (q ≤ f)
  pub left : Back d i e p (end_at d i e j f) (end_at d i p j q)
  pub right : Back d j f q (end_at d i e j f) (end_at d i p j q)

pub rested_start : (d : List ℕ) (i e j f : ℕ) → i ≤ e → j ≤ f → Rested d i e j f e f
rested_start d i e j f h g = record { left_inside = (h, omega arith); right_inside = (g, omega arith); left = back_start d i e _; right = back_start d j f _ }

last_of : (u : List (List ℕ)) (a : List ℕ) (x : List (List ℕ)) → x ≡ u ++ a ∷ [] → backwards x ≡ a ∷ backwards u
last_of u a x e = ap backwards e ∙ backwards_snoc u a

pub rested_turn : (d : List ℕ) (i e j f p q p' q' : ℕ) → Rested d i e j f p q
    → ((i ≤ p') × (p' < p)) × (characters (part i p d) ≡ characters (part i p' d) ++ part p' p d ∷ [])
    → ((j ≤ q') × (q' < q)) × (characters (part j q d) ≡ characters (part j q' d) ++ part q' q d ∷ [])
    → same (part p' p d) (part q' q d) ≡ true → Rested d i e j f p' q'
rested_turn d i e j f p q p' q' b x y s =
    let u = characters (part i p' d) in
    let v = characters (part j q' d) in
    let m : end_at d i p j q ≡ suc (end_at d i p' j q') =
    ap (λ (z : List (List ℕ)). shared z (backwards (characters (part j q d)))) (last_of u (part p' p d) _ x.1)
    ∙ ap (λ (z : List (List ℕ)). shared (part p' p d ∷ backwards u) z) (last_of v (part q' q d) _ y.1)
    ∙ shared_more (part p' p d) (part q' q d) (backwards u) (backwards v) s in
    record {
      left_inside = (x.0.0, omega (arith, b.left_inside.1, x.0.1));
      right_inside = (y.0.0, omega (arith, b.right_inside.1, y.0.1));
      left = back_turn d i e p p' _ _ _ (omega (arith, x.0.1)) b.left_inside.1 b.left x.1 m;
      right = back_turn d j f q q' _ _ _ (omega (arith, y.0.1)) b.right_inside.1 b.right y.1 m;
    }

pub rested_stop : (d : List ℕ) (i e j f p q : ℕ) → Rested d i e j f p q → end_at d i p j q ≡ 0 → End d i e j f (record { left = p; right = q })
rested_stop d i e j f p q b z =
    let l = back_stop d i e p _ _ b.left z in
    let r = back_stop d j f q _ _ b.right z in
    record { left_inside = b.left_inside; right_inside = b.right_inside; left_middle = l.0; right_middle = r.0; left_shared = l.1; right_shared = r.1 }

backwards_nil : backwards [] ≡ []
unfolding backwards
backwards_nil = refl

none_backwards : (d : List ℕ) (i p : ℕ) → p ≤ i → backwards (characters (part i p d)) ≡ []
none_backwards d i p h = ap backwards (ap characters (part_none d i p h) ∙ characters_nil) ∙ backwards_nil

pub rest_left : (d : List ℕ) (i p j q : ℕ) → p ≤ i → end_at d i p j q ≡ 0
rest_left d i p j q h = ap (λ (z : List (List ℕ)). shared z (backwards (characters (part j q d)))) (none_backwards d i p h) ∙ shared_none _

pub rest_right : (d : List ℕ) (i p j q : ℕ) → q ≤ j → end_at d i p j q ≡ 0
rest_right d i p j q h = ap (λ (z : List (List ℕ)). shared (backwards (characters (part i p d))) z) (none_backwards d j q h) ∙ none_shared _

pub rest_other : (d : List ℕ) (i p j q p' q' : ℕ) → characters (part i p d) ≡ characters (part i p' d) ++ part p' p d ∷ [] → characters (part j q d) ≡ characters (part j q' d) ++ part q' q d ∷ []
    → same (part p' p d) (part q' q d) ≡ false → end_at d i p j q ≡ 0
rest_other d i p j q p' q' x y s =
    ap (λ (z : List (List ℕ)). shared z (backwards (characters (part j q d)))) (last_of _ (part p' p d) _ x)
    ∙ ap (λ (z : List (List ℕ)). shared (part p' p d ∷ backwards (characters (part i p' d))) z) (last_of _ (part q' q d) _ y)
    ∙ shared_no_more (part p' p d) (part q' q d) (backwards (characters (part i p' d))) (backwards (characters (part j q' d))) s

-- ---- both: the rest of a value by what remains of it

pub rest_of : (x y u v : List (List ℕ)) (n : ℕ) → n ≡ shared x y → drop n x ≡ u → drop n y ≡ v
    → (take (length x - (n + shared_end u v)) (drop n x) ≡ take (length u - shared_end u v) u) × (drop (length x - shared_end u v) x ≡ drop (length u - shared_end u v) u)
rest_of x y u v n q e g =
    let k = shared_end u v in
    let a : n ≤ length x = omega (arith, (shared_most x y).0, q) in
    let b : k ≤ length u = omega (arith, (shared_most (backwards u) (backwards v)).0, length_backwards u) in
    let l : length u ≡ length x - n = ap length (sym e) ∙ length-drop n x in
    let m : length x - (n + k) ≡ length u - k = omega arith in
    let o : length x - k ≡ n + (length u - k) = omega arith in (
      ap (λ (j : ℕ). take j (drop n x)) m ∙ ap (take (length u - k)) e,
      ap (λ (j : ℕ). drop j x) o ∙ sym (drop-drop (length u - k) n x) ∙ ap (drop (length u - k)) e,
    )

pub rest_of_other : (x y u v : List (List ℕ)) (n : ℕ) → n ≡ shared x y → drop n x ≡ u → drop n y ≡ v
    → (take (length y - (n + shared_end u v)) (drop n y) ≡ take (length v - shared_end u v) v) × (drop (length y - shared_end u v) y ≡ drop (length v - shared_end u v) v)
rest_of_other x y u v n q e g =
    let k = shared_end u v in
    let a : n ≤ length y = omega (arith, (shared_most x y).1, q) in
    let b : k ≤ length v = omega (arith, (shared_most (backwards u) (backwards v)).1, length_backwards v) in
    let l : length v ≡ length y - n = ap length (sym g) ∙ length-drop n y in
    let m : length y - (n + k) ≡ length v - k = omega arith in
    let o : length y - k ≡ n + (length v - k) = omega arith in (
      ap (λ (j : ℕ). take j (drop n y)) m ∙ ap (take (length v - k)) g,
      ap (λ (j : ℕ). drop j y) o ∙ sym (drop-drop (length v - k) n y) ∙ ap (drop (length v - k)) g,
    )

-- ---- whether two parts are the same, as code compares them

pointwise_same : (x y : List ℕ) → pointwise eqb x y ≡ same x y
unfolding same
pointwise_same [] [] = refl
pointwise_same [] (b ∷ y) = refl
pointwise_same (a ∷ x) [] = refl
pointwise_same (a ∷ x) (b ∷ y) = by (eqb a b) (pointwise_same x y)
  where
    by : {r t : Bool} (c : Bool) → r ≡ t → (c && r) ≡ elim c as (λ _. Bool) [ true ↦ t | false ↦ false ]
    by true e = e
    by false e = refl

pub found_same : (x y : List ℕ) (r : Bool) → r ≡ pointwise eqb x y → r ≡ same x y
found_same x y r e = e ∙ pointwise_same x y

pub found_alike : (x y : List ℕ) (r : Bool) → r ≡ not (pointwise eqb x y) → r ≡ false → same x y ≡ true
found_alike x y r e h = sym (pointwise_same x y) ∙ by (pointwise eqb x y) (sym e ∙ h)
  where
    by : (c : Bool) → not c ≡ false → c ≡ true
    by true z = refl
    by false z = cc

pub found_unlike : (x y : List ℕ) (r : Bool) → r ≡ not (pointwise eqb x y) → r ≡ true → same x y ≡ false
found_unlike x y r e h = sym (pointwise_same x y) ∙ by (pointwise eqb x y) (sym e ∙ h)
  where
    by : (c : Bool) → not c ≡ true → c ≡ false
    by true z = cc
    by false z = refl
