-- Laws of `put_at`: callers cite these and never open it. Assumes nothing.
use mathlib.Core.Path.{◌≡◌, refl, ap, sym, ◌∙◌}
use mathlib.Core.List.{List, [], ◌∷◌, ◌++◌, append_assoc}
use Prim.Native.Nat.{ℕ, suc, ◌+◌, ◌-◌, ◌<◌, ◌≤◌}
use native.Mathlib.Nat.{add-zero}
use native.Mathlib.Numerals.{add-one}
use native.Mathlib.Omega.{arith}
use lib.ListN.{length, take, drop, get_or, set, take-append-drop, length-append, length-drop}
use lib.Seq.{drop-cons, take-suc, length-take-le, take_all, take_at, drop_at, set_at, drop-drop, drop-append-add, take-append-le, take-take}
use borrow.Rule.Slice.PartMut.{put_mid, Post-is}
use Rattle.buffer.specs.Bytes.{part}
use Rattle.buffer.specs.Buffer.{put_at}

-- the front: what stands before the end of what is written
abbrev front : List ℕ → ℕ → List ℕ → List ℕ
front d at s = take at d ++ s

front_length : (d : List ℕ) (at : ℕ) (s : List ℕ) → at ≤ length d → length (front d at s) ≡ at + length s
front_length d at s h = omega (arith, length-append (take at d) s, length-take-le at d h)

put_front : (d : List ℕ) (at : ℕ) (s : List ℕ) → put_at d at s ≡ front d at s ++ drop (at + length s) d
unfolding put_at
put_front d at s = sym (append_assoc (take at d) s (drop (at + length s) d))

-- what a write to the part of d from `at` up to e leaves
pub put_part : (d : List ℕ) (at e : ℕ) (y s : List ℕ) → y ≡ s → e ≡ at + length s → put_mid at (e - at) d y ≡ put_at d at s
unfolding put_at
put_part d at e y s q h =
    ap (λ (l : List ℕ). take at d ++ (y ++ l)) (Post-is at e d (omega arith) ∙ ap (λ (n : ℕ). drop n d) h)
    ∙ ap (λ (l : List ℕ). take at d ++ (l ++ drop (at + length s) d)) q

-- to write nothing changes nothing
pub put_nil : (d : List ℕ) (at : ℕ) → put_at d at [] ≡ d
unfolding put_at
put_nil d at = ap (λ (n : ℕ). take at d ++ drop n d) (add-zero at) ∙ take-append-drop at d

-- a write keeps the length
pub put_length : (d : List ℕ) (at : ℕ) (s : List ℕ) → at + length s ≤ length d → length (put_at d at s) ≡ length d
put_length d at s h =
    let f : at ≤ length d = omega arith in
    ap length (put_front d at s) ∙ omega (arith, length-append (front d at s) (drop (at + length s) d), front_length d at s f, length-drop (at + length s) d)

-- a write of one byte more
pub put_snoc : (d : List ℕ) (at : ℕ) (s : List ℕ) (b : ℕ) → at + length s < length d → set (put_at d at s) (at + length s) b ≡ put_at d at (s ++ b ∷ [])
unfolding put_at
put_snoc d at s b h =
    let f : at ≤ length d = omega arith in
    let n : at + length (s ++ b ∷ []) ≡ suc (at + length s) = omega (arith, length-append s (b ∷ [])) in
    ap (λ (l : List ℕ). set l (at + length s) b) (put_front d at s ∙ ap (λ (l : List ℕ). front d at s ++ l) (drop-cons d (at + length s) 0 h))
    ∙ set_at (front d at s) (get_or d (at + length s) 0) (drop (suc (at + length s)) d) b (at + length s) (front_length d at s f)
    ∙ append_assoc (take at d) s (b ∷ drop (suc (at + length s)) d)
    ∙ ap (λ (l : List ℕ). take at d ++ l) (sym (append_assoc s (b ∷ []) (drop (suc (at + length s)) d)))
    ∙ ap (λ (k : ℕ). take at d ++ ((s ++ b ∷ []) ++ drop k d)) (sym n)

-- one turn of a copy
pub put_next : (d : List ℕ) (at : ℕ) (s : List ℕ) (i : ℕ) → i < length s → at + length s ≤ length d
    → set (put_at d at (take i s)) (at + i) (get_or s i 0) ≡ put_at d at (take (i + 1) s)
put_next d at s i h g =
    let l : length (take i s) ≡ i = length-take-le i s (omega arith) in
    let e : take i s ++ get_or s i 0 ∷ [] ≡ take (i + 1) s = rw (add-one, take-suc s i 0) in
    ap (λ (k : ℕ). set (put_at d at (take i s)) (at + k) (get_or s i 0)) (sym l)
    ∙ put_snoc d at (take i s) (get_or s i 0) (omega arith)
    ∙ ap (put_at d at) e

-- a copy byte by byte: so far the first i bytes of m are written to the front of d
module _ (d m : List ℕ) (i : ℕ) (f : length m ≤ length d) where
  pub copy_length : i ≤ length m → length (put_at d 0 (take i m)) ≡ length d
  copy_length h = put_length d 0 (take i m) (omega (arith, length-take-le i m h, f))

  pub copy_more : (e : List ℕ) (x : ℕ) → e ≡ put_at d 0 (take i m) → i < length m → x ≡ get_or m i 0 → set e i x ≡ put_at d 0 (take (i + 1) m)
  copy_more e x q h r =
      let z : i ≡ 0 + i = omega arith in
      ap (λ (s : List ℕ). set s i x) q
      ∙ ap (set (put_at d 0 (take i m)) i) r
      ∙ ap (λ (k : ℕ). set (put_at d 0 (take i m)) k (get_or m i 0)) z
      ∙ put_next d 0 m i h (omega (arith, f))

  pub copy_done : (e : List ℕ) → e ≡ put_at d 0 (take i m) → length m ≤ i → e ≡ put_at d 0 m
  copy_done e q h = q ∙ ap (put_at d 0) (take_all i m h)

-- two writes, the second where the first ends, are one of the joined bytes
pub put_put : (d : List ℕ) (at m : ℕ) (s t : List ℕ) → m ≡ at + length s → at + (length s + length t) ≤ length d → put_at (put_at d at s) m t ≡ put_at d at (s ++ t)
unfolding put_at
put_put d at m s t e h =
    let f : at ≤ length d = omega arith in
    let p = front d at s in
    let r = drop (at + length s) d in
    let lp : length p ≡ at + length s = front_length d at s f in
    let lm : length p ≡ m = omega arith in
    let g : at + length s + length t ≡ at + length (s ++ t) = omega (arith, length-append s t) in
    ap (λ (l : List ℕ). take m l ++ (t ++ drop (m + length t) l)) (sym (append_assoc (take at d) s r))
    ∙ ap (λ (l : List ℕ). l ++ (t ++ drop (m + length t) (p ++ r))) (take_at p r m lm)
    ∙ ap (λ (k : ℕ). p ++ (t ++ drop (k + length t) (p ++ r))) (sym lm)
    ∙ ap (λ (l : List ℕ). p ++ (t ++ l)) (drop-append-add p r (length t) ∙ drop-drop (length t) (at + length s) d ∙ ap (λ (k : ℕ). drop k d) g)
    ∙ append_assoc (take at d) s (t ++ drop (at + length (s ++ t)) d)
    ∙ ap (λ (l : List ℕ). take at d ++ l) (sym (append_assoc s t (drop (at + length (s ++ t)) d)))

-- what lies past a write is as it was
pub put_drop : (d : List ℕ) (at i : ℕ) (s : List ℕ) → at + length s ≤ i → at ≤ length d → drop i (put_at d at s) ≡ drop i d
put_drop d at i s h f =
    let p = front d at s in
    let r = drop (at + length s) d in
    let lp : length p ≡ at + length s = front_length d at s f in
    let e : i ≡ length p + (i - (at + length s)) = omega arith in
    let g : at + length s + (i - (at + length s)) ≡ i = omega arith in
    ap (λ (l : List ℕ). drop i l) (put_front d at s)
    ∙ ap (λ (k : ℕ). drop k (p ++ r)) e
    ∙ drop-append-add p r (i - (at + length s))
    ∙ drop-drop (i - (at + length s)) (at + length s) d
    ∙ ap (λ (k : ℕ). drop k d) g

-- up to its end a write is the front and the bytes
pub put_take : (d : List ℕ) (at m : ℕ) (s : List ℕ) → m ≡ at + length s → at ≤ length d → take m (put_at d at s) ≡ take at d ++ s
put_take d at m s e f =
    let lm : length (front d at s) ≡ m = front_length d at s f ∙ sym e in
    ap (take m) (put_front d at s) ∙ take_at (front d at s) (drop (at + length s) d) m lm

-- a write after a write, in the form that a chain of calls has
pub join : (d d' d'' : List ℕ) (at m : ℕ) (s t : List ℕ)
    → d' ≡ put_at d at s → d'' ≡ put_at d' m t → m ≡ at + length s → at + (length s + length t) ≤ length d → d'' ≡ put_at d at (s ++ t)
join d d' d'' at m s t e f n h = f ∙ ap (λ (x : List ℕ). put_at x m t) e ∙ put_put d at m s t n h

-- what was written stands where it was written
pub part_put : (d : List ℕ) (at e : ℕ) (s : List ℕ) → e ≡ at + length s → at ≤ length d → part at e (put_at d at s) ≡ s
unfolding put_at
part_put d at e s n h =
    let k : length s ≡ e - at = omega arith in
    ap (take (e - at)) (drop_at (take at d) (s ++ drop (at + length s) d) at (length-take-le at d h))
    ∙ take_at s (drop (at + length s) d) (e - at) k

-- what lies before a write is as it was
pub take_put : (d : List ℕ) (at b : ℕ) (s : List ℕ) → at ≤ b → b ≤ length d → take at (put_at d b s) ≡ take at d
unfolding put_at
take_put d at b s h g =
    let l : length (take b d) ≡ b = length-take-le b d g in
    take-append-le at (take b d) (s ++ drop (b + length s) d) (omega arith) ∙ take-take at b d h

put_open : (d : List ℕ) (at : ℕ) (s : List ℕ) → put_at d at s ≡ take at d ++ (s ++ drop (at + length s) d)
unfolding put_at
put_open d at s = refl

-- a write that covers an earlier one
pub put_over : (d : List ℕ) (at b : ℕ) (s x : List ℕ) → at ≤ b → b + length s ≤ at + length x → at + length x ≤ length d
    → put_at (put_at d b s) at x ≡ put_at d at x
put_over d at b s x h g r =
    put_open (put_at d b s) at x
    ∙ ap (λ (l : List ℕ). l ++ (x ++ drop (at + length x) (put_at d b s))) (take_put d at b s h (omega arith))
    ∙ ap (λ (l : List ℕ). take at d ++ (x ++ l)) (put_drop d b (at + length x) s g (omega arith))
    ∙ sym (put_open d at x)
