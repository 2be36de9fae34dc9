-- Laws of a text that moves forward in a buffer: one turn, with a reset at the place read and without one, and the end. Assumes nothing.
use mathlib.Core.Path.{◌≡◌, ap, sym, ◌∙◌}
use mathlib.Core.Bool.{true, false}
use mathlib.Core.List.{List, [], ◌∷◌, ◌++◌, append_assoc}
use Prim.Native.Nat.{ℕ, ◌+◌, ◌-◌, ◌<◌, ◌≤◌}
use native.Mathlib.Numerals.{add-one}
use native.Mathlib.Omega.{arith}
use lib.ListN.{length, take, drop, get_or, set, take-append-drop, length-append, length-drop, length-set}
use lib.Seq.{take-suc-set, drop-set-lt, drop-drop, drop_at, take-add, length-take-le}
use Rattle.buffer.specs.Bytes.{part}
use Rattle.buffer.specs.Buffer.{put_at, Puts}
use Rattle.buffer.proofs.Parts.{same_byte, drop_more, part_step, part_length, part_end}
use Rattle.buffer.proofs.Writing.{put_drop, put_take, join}
use Rattle.colour.specs.Sequences.{reset, starts_with, reinserted}
use Rattle.dress.proofs.Comparing.{starts_split}
use Rattle.dress.proofs.Inserting.{inserted_nil, inserted_other, inserted_reset, inserted_longer, inserted_same}

-- ---- parts

-- a part without its first m bytes
part_later : (d : List ℕ) (i m e : ℕ) → i + m ≤ e → e ≤ length d → drop m (part i e d) ≡ part (i + m) e d
part_later d i m e h g =
    let n = e - (i + m) in
    let k : e - i ≡ m + n = omega arith in
    let l : length (take m (drop i d)) ≡ m = length-take-le m (drop i d) (omega (arith, length-drop i d)) in
    ap (λ (x : ℕ). drop m (take x (drop i d))) k
    ∙ ap (drop m) (take-add m n (drop i d))
    ∙ drop_at (take m (drop i d)) (take n (drop m (drop i d))) m l
    ∙ ap (take n) (drop-drop m i d)

-- two lists that agree from a place on agree further on
drop_later : (a b : List ℕ) (i m : ℕ) → drop i a ≡ drop i b → drop (i + m) a ≡ drop (i + m) b
drop_later a b i m e = sym (drop-drop m i a) ∙ ap (drop m) e ∙ drop-drop m i b

part_drop : (d : List ℕ) (r e : ℕ) → r ≤ e → drop r d ≡ part r e d ++ drop e d
part_drop d r e h =
    let k : r + (e - r) ≡ e = omega arith in
    sym (take-append-drop (e - r) (drop r d)) ∙ ap (λ (l : List ℕ). part r e d ++ l) (drop-drop (e - r) r d ∙ ap (λ (n : ℕ). drop n d) k)

-- ---- a turn

-- The buffer was d₀ and is d: it is read up to r and written up to w. What is written and what is still to be written make up x, what is
-- still to be read is as it was, and the rest of the result ends at e.
pub record Halfway (d₀ p x : List ℕ) (e : ℕ) (d : List ℕ) (w r : ℕ) : Type 0 where
  pub inside : e ≤ length d₀
  pub long : length d ≡ length d₀
  pub left : r ≤ e
  pub unread : drop r d ≡ drop r d₀
  pub ends : w + length (reinserted p (part r e d₀)) ≡ e
  pub written : take w d ++ reinserted p (part r e d₀) ≡ x

module _ {d₀ p x : List ℕ} {e : ℕ} {d : List ℕ} {w r : ℕ} (k : Halfway d₀ p x e d w r) where
  -- the place written is never past the place read
  pub not_past : w ≤ r
  not_past = omega (arith, inserted_longer p (part r e d₀), part_length d₀ r e k.left k.inside)

  -- while it is behind it, bytes are left
  pub some_left : w < r → r < e
  some_left h =
      let q : r ≡ e → ⊥ = λ y.
      let z : reinserted p (part r e d₀) ≡ [] = ap (λ (m : ℕ). reinserted p (part m e d₀)) y ∙ ap (reinserted p) (part_end d₀ e) ∙ inserted_nil p in
      omega (arith, ap length z) in
      omega (arith, q)

  same_part : part r e d ≡ part r e d₀
  same_part = ap (take (e - r)) k.unread

  -- where no reset stands at the place read, its byte is moved
  pub moved_byte : w < r → starts_with reset (part r e d) ≡ false → Halfway d₀ p x e (set d w (get_or d r 0)) (w + 1) (r + 1)
  moved_byte h t =
      let b = get_or d r 0 in
      let z = part (r + 1) e d₀ in
      let l : r < e = some_left h in
      let s : part r e d₀ ≡ b ∷ z = part_step d₀ r e l k.inside ∙ ap (λ (c : ℕ). c ∷ z) (sym (same_byte d d₀ r k.unread)) in
      let f : reinserted p (part r e d₀) ≡ b ∷ reinserted p z = ap (reinserted p) s ∙ inserted_other p b z (ap (starts_with reset) (sym (same_part ∙ s)) ∙ t) in
      let a : take (w + 1) (set d w b) ≡ take w d ++ b ∷ [] = rw (add-one, take-suc-set d w b (omega arith)) in
      record {
        inside = k.inside;
        long = length-set d w b ∙ k.long;
        left = omega arith;
        unread = drop-set-lt (r + 1) d w b (omega arith) ∙ drop_more d d₀ r k.unread;
        ends = omega (arith, ap length f);
        written = ap (λ (y : List ℕ). y ++ reinserted p z) a
            ∙ append_assoc (take w d) (b ∷ []) (reinserted p z) ∙ ap (λ (y : List ℕ). take w d ++ y) (sym f) ∙ k.written;
      }

  -- where one stands there, p is inserted behind it
  reset_there : starts_with reset (part r e d) ≡ true → (r + 4 ≤ e) × (reinserted p (part r e d₀) ≡ reset ++ (p ++ reinserted p (part (r + 4) e d₀)))
  reset_there t =
      let s : part r e d₀ ≡ reset ++ drop 4 (part r e d₀) = starts_split reset (part r e d₀) (ap (starts_with reset) (sym same_part) ∙ t) in
      let l : r + 4 ≤ e = omega (arith, ap length s, part_length d₀ r e k.left k.inside) in
      let z : drop 4 (part r e d₀) ≡ part (r + 4) e d₀ = part_later d₀ r 4 e l k.inside in
      (l, ap (reinserted p) (s ∙ ap (λ (y : List ℕ). reset ++ y) z) ∙ inserted_reset p (part (r + 4) e d₀))

  -- and there is room for both before what is left to read then
  pub reset_fits : starts_with reset (part r e d) ≡ true → (w + length p ≤ r) × (r + 4 ≤ e)
  reset_fits t =
      let u = reset_there t in
      let z = part (r + 4) e d₀ in
      omega (arith, u.0, ap length u.1, length-append p (reinserted p z), inserted_longer p z, part_length d₀ (r + 4) e u.0 k.inside)

  -- the reset written, and p behind it
  pub moved_reset : starts_with reset (part r e d) ≡ true
      → (d₁ d₂ : List ℕ) (v u : ℕ) → Puts d d₁ w reset v → Puts d₁ d₂ v p u → length d₂ ≡ length d → Halfway d₀ p x e d₂ u (r + 4)
  moved_reset t d₁ d₂ v u e₁ e₂ n =
      let z = part (r + 4) e d₀ in
      let f = (reset_there t).1 in
      let m : (w + length p ≤ r) × (r + 4 ≤ e) = reset_fits t in
      let o : e ≤ length d = omega (arith, k.inside, k.long) in
      let j : d₂ ≡ put_at d w (reset ++ p) = join d d₁ d₂ w v reset p e₁.1 e₂.1 e₁.0 (omega arith) in
      record {
        inside = k.inside;
        long = n ∙ k.long;
        left = m.1;
        unread = ap (drop (r + 4)) j ∙ put_drop d w (r + 4) (reset ++ p) (omega arith) (omega arith) ∙ drop_later d d₀ r 4 k.unread;
        ends = omega (arith, ap length f, length-append p (reinserted p z));
        written = ap (λ (y : List ℕ). take u y ++ reinserted p z) j
            ∙ ap (λ (y : List ℕ). y ++ reinserted p z) (put_take d w u (reset ++ p) (omega arith) (omega arith))
            ∙ append_assoc (take w d) (reset ++ p) (reinserted p z) ∙ ap (λ (y : List ℕ). take w d ++ y) (sym f) ∙ k.written;
      }

-- ---- the end

-- where the place written has reached the place read, the rest stands where it must
pub reached : {d₀ p d : List ℕ} {e w r : ℕ} (s : List ℕ) (o : ℕ) → Halfway d₀ p (take o d₀ ++ s) e d w r → e ≡ o + length s → w ≡ r → d ≡ put_at d₀ o s
unfolding put_at
reached {d₀} {p} {d} {e} {w} {r} s o k es wr =
    let t = part r e d₀ in
    let z : reinserted p t ≡ t = inserted_same p t (omega (arith, part_length d₀ r e k.left k.inside)) in
    sym (take-append-drop r d)
    ∙ ap (λ (m : ℕ). take m d ++ drop r d) (sym wr)
    ∙ ap (λ (l : List ℕ). take w d ++ l) (k.unread ∙ part_drop d₀ r e k.left ∙ ap (λ (l : List ℕ). l ++ drop e d₀) (sym z))
    ∙ sym (append_assoc (take w d) (reinserted p t) (drop e d₀))
    ∙ ap (λ (l : List ℕ). l ++ drop e d₀) k.written
    ∙ append_assoc (take o d₀) s (drop e d₀)
    ∙ ap (λ (m : ℕ). take o d₀ ++ (s ++ drop m d₀)) es
