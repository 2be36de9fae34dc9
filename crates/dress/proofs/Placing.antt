-- A text written in its frame: padding around it, or dressed where it stands. Assumes nothing.
use Prim.Native.Nat.{ℕ, ◌+◌, ◌-◌, ◌≤◌}
use mathlib.Core.Path.{◌≡◌, refl, sym, ap, ◌∙◌}
use mathlib.Core.Bool.{Bool, true, false}
use mathlib.Core.List.{List, [], ◌∷◌, ◌++◌, append_assoc}
use native.Mathlib.Omega.{arith}
use lib.ListN.{length, replicate, length-append, length-replicate}
use Rattle.buffer.specs.Bytes.{part}
use Rattle.buffer.specs.Buffer.{put_at}
use Rattle.buffer.proofs.Writing.{join, part_put, put_over}
use Rattle.colour.specs.declared.Settings.{Settings}
use Rattle.colour.specs.declared.Look.{Look}
use Rattle.colour.specs.Sequences.{reset, reinserted}
use Rattle.colour.specs.Looks.{prefix}
use Rattle.colour.specs.Formatting.{prefix_in, inserted, padded, before, pad_byte, ending, framed}
use Rattle.colour.proofs.Formatted.{laid_plain, ending_reset}
use Rattle.colour.proofs.Measures.{length_reinserted}
use Rattle.dress.specs.declared.Frame.{Frame}
use Rattle.dress.proofs.Framing.{empty, opening, Framed, framed_length}

-- where there is a prefix colour is on
pub prefix_on : (on : Bool) (k : Look) → (length (prefix_in on k) ≡ 0 → ⊥) → prefix_in on k ≡ prefix k
unfolding prefix_in
prefix_on true k h = refl
prefix_on false k h = absurd (h refl)

ending_some : (p : List ℕ) → (length p ≡ 0 → ⊥) → ending p ≡ reset
ending_some p h = ending_reset p (λ e. h (ap length e))

pub ending_none : (p : List ℕ) → length p ≡ 0 → length (ending p) ≡ 0
unfolding ending
ending_none [] h = refl
ending_none (b ∷ p) h = absurd (let z : ⊥ = omega arith in z)

pub ending_four : (p : List ℕ) → (length p ≡ 0 → ⊥) → length (ending p) ≡ 4
ending_four p h = ap length (ending_some p h)

module _ (s : Settings) (w : Frame) (x y : List ℕ) (h : Framed s w x y) where
  -- without a prefix
  pub put_plain : (o o₁ o₂ o₃ : List ℕ) (at b e z : ℕ) → length (opening s w.format) ≡ 0 → z ≡ pad_byte w.format.padding
      → o₁ ≡ put_at o at (replicate w.left z) → b ≡ at + w.left → o₂ ≡ put_at o₁ b x → e ≡ b + length x → o₃ ≡ put_at o₂ e (replicate w.right z)
      → at + length y ≤ length o → o₃ ≡ put_at o at y
  put_plain o o₁ o₂ o₃ at b e z p0 ze e₁ be e₂ ee e₃ room =
      let f = w.format in
      let n = padded s f x in
      let l = replicate w.left z in
      let r = replicate w.right z in
      let lz : length l ≡ w.left = length-replicate w.left z in
      let rz : length r ≡ w.right = length-replicate w.right z in
      let la : length (l ++ x) ≡ length l + length x = length-append l x in
      let fl = framed_length s w x y h in
      let yl : y ≡ l ++ (x ++ r) =
      h.text ∙ ap (λ (q : List ℕ). framed q f n x) (empty (opening s f) p0) ∙ laid_plain f n x
      ∙ ap (λ (k : ℕ). replicate k (pad_byte f.padding) ++ (x ++ replicate (n - before f.alignment n) (pad_byte f.padding))) (sym h.left)
      ∙ ap (λ (k : ℕ). replicate w.left (pad_byte f.padding) ++ (x ++ replicate k (pad_byte f.padding))) (sym h.right)
      ∙ ap (λ (k : ℕ). replicate w.left k ++ (x ++ replicate w.right k)) (sym ze) in
      let j₂ = join o o₁ o₂ at b l x e₁ e₂ (omega arith) (omega arith) in
      let j₃ = join o o₂ o₃ at e (l ++ x) r j₂ e₃ (omega arith) (omega arith) in
      j₃ ∙ ap (put_at o at) (append_assoc l x r ∙ sym yl)

  -- what dressing puts around the text
  pub dressed_text : (length (opening s w.format) ≡ 0 → ⊥)
      → prefix w.format.look ++ (replicate w.left (pad_byte w.format.padding) ++ (reinserted (prefix w.format.look) x ++ (replicate w.right (pad_byte w.format.padding) ++ reset))) ≡ y
  unfolding framed
  dressed_text p1 =
      let f = w.format in
      let n = padded s f x in
      let z = pad_byte f.padding in
      let p = opening s f in
      ap (λ (q : List ℕ). q ++ (replicate w.left z ++ (reinserted q x ++ (replicate w.right z ++ reset)))) (sym (prefix_on s.colour f.look p1))
      ∙ ap (λ (q : List ℕ). p ++ (replicate w.left z ++ (reinserted p x ++ (replicate w.right z ++ q)))) (sym (ending_some p p1))
      ∙ ap (λ (k : ℕ). p ++ (replicate k z ++ (reinserted p x ++ (replicate w.right z ++ ending p)))) h.left
      ∙ ap (λ (k : ℕ). p ++ (replicate (before f.alignment n) z ++ (reinserted p x ++ (replicate k z ++ ending p)))) h.right
      ∙ sym h.text

  -- the place where the text must stand for that
  pub dressed_place : (length (opening s w.format) ≡ 0 → ⊥) → (at b e p : ℕ) → p ≡ length (opening s w.format) → b ≡ at + (p + (w.left + w.inserted)) → e ≡ b + length x
      → at + (length (prefix w.format.look) + (w.left + length (reinserted (prefix w.format.look) x))) ≡ e
  unfolding inserted
  dressed_place p1 at b e p pe be ee =
      let f = w.format in
      let q = ap length (prefix_on s.colour f.look p1) in
      let r = ap (λ (u : List ℕ). length (reinserted u x)) (prefix_on s.colour f.look p1) in
      omega (arith, h.between, length_reinserted (opening s f) x)

  -- with a prefix: the text first, then what is around it
  pub put_dressed : (o o₁ o₂ : List ℕ) (at b e p : ℕ) → (length (opening s w.format) ≡ 0 → ⊥) → p ≡ length (opening s w.format)
      → b ≡ at + (p + (w.left + w.inserted)) → o₁ ≡ put_at o b x → e ≡ b + length x
      → o₂ ≡ put_at o₁ at (prefix w.format.look ++ (replicate w.left (pad_byte w.format.padding) ++ (reinserted (prefix w.format.look) (part b e o₁) ++ (replicate w.right (pad_byte w.format.padding) ++ reset))))
      → at + length y ≤ length o → o₂ ≡ put_at o at y
  put_dressed o o₁ o₂ at b e p p1 pe be e₁ ee e₂ room =
      let f = w.format in
      let z = pad_byte f.padding in
      let fl = framed_length s w x y h in
      let m : part b e o₁ ≡ x = ap (part b e) e₁ ∙ part_put o b e x ee (omega arith) in
      e₂ ∙ ap (λ (u : List ℕ). put_at o₁ at (prefix f.look ++ (replicate w.left z ++ (reinserted (prefix f.look) u ++ (replicate w.right z ++ reset))))) m
      ∙ ap (put_at o₁ at) (dressed_text p1) ∙ ap (λ (u : List ℕ). put_at u at y) e₁ ∙ put_over o at b x y (omega arith) (omega arith) (omega arith)
