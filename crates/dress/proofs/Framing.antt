-- A text and the frame around it: how long they are together, and what they add to a measure. Assumes nothing.
use Prim.Native.Nat.{ℕ, ◌+◌, ◌-◌}
use mathlib.Core.Path.{◌≡◌, refl, sym, ap, ◌∙◌}
use mathlib.Core.List.{List, [], ◌∷◌, ◌++◌}
use native.Mathlib.Omega.{arith}
use lib.ListN.{length, replicate, length-append, length-replicate}
use Rattle.colour.specs.declared.Settings.{Settings}
use Rattle.colour.specs.declared.Format.{Format}
use Rattle.colour.specs.Formatting.{prefix_in, inserted, padded, before, pad_byte, ending, framed}
use Rattle.colour.proofs.Formatted.{before_small, inserted_nil}
use Rattle.colour.proofs.Measures.{length_laid, inserted_resets}
use Rattle.measure.specs.declared.Measure.{Measure}
use Rattle.measure.specs.Measures.{grown, more}
use Rattle.measure.proofs.Walked.{walked}
use Rattle.dress.specs.declared.Frame.{Frame}

pub empty : (s : List ℕ) → length s ≡ 0 → s ≡ []
empty [] e = refl
empty (b ∷ s) e = absurd (let z : ⊥ = omega arith in z)

-- the prefix of a frame
abbrev pub opening : Settings → Format → List ℕ
opening s f = prefix_in s.colour f.look

-- y is the text x in the frame w
pub record Framed (s : Settings) (w : Frame) (x y : List ℕ) : Type 0 where
  pub left : w.left ≡ before w.format.alignment (padded s w.format x)
  pub right : w.right ≡ padded s w.format x - before w.format.alignment (padded s w.format x)
  pub between : w.inserted ≡ inserted (opening s w.format) x
  pub text : y ≡ framed (opening s w.format) w.format (padded s w.format x) x

module _ (s : Settings) (w : Frame) (x y : List ℕ) (h : Framed s w x y) where
  pub framed_length : length y ≡ length (opening s w.format) + (w.left + (length x + (w.inserted + (w.right + length (ending (opening s w.format))))))
  framed_length =
      let f = w.format in
      omega (
        arith,
        ap length h.text,
        length_laid (opening s f) f (padded s f x) x,
        inserted_resets (opening s f) x,
        before_small f.alignment (padded s f x),
        h.left,
        h.right,
        h.between,
      )

  pub open_length : length (opening s w.format ++ replicate w.left (pad_byte w.format.padding)) ≡ length (opening s w.format) + w.left
  open_length =
      length-append (opening s w.format) (replicate w.left (pad_byte w.format.padding))
      ∙ ap (λ (n : ℕ). length (opening s w.format) + n) (length-replicate w.left (pad_byte w.format.padding))

  -- one segment on top of a measure
  pub frame_walked : (a b c : Measure) → b ≡ grown a (opening s w.format ++ replicate w.left (pad_byte w.format.padding)) → c ≡ grown b x
      → grown (more c w.inserted) (replicate w.right (pad_byte w.format.padding) ++ ending (opening s w.format)) ≡ grown a y
  frame_walked a b c be ce =
      let f = w.format in
      let p = opening s f in
      let z = pad_byte f.padding in
      let n = padded s f x in
      let l = before f.alignment n in
      ap (λ (k : Measure). grown (more k w.inserted) (replicate w.right z ++ ending p)) (ce ∙ ap (λ (k : Measure). grown k x) be)
      ∙ ap (λ (k : ℕ). grown (more (grown (grown a (p ++ replicate k z)) x) w.inserted) (replicate w.right z ++ ending p)) h.left
      ∙ ap (λ (k : ℕ). grown (more (grown (grown a (p ++ replicate l z)) x) k) (replicate w.right z ++ ending p)) h.between
      ∙ ap (λ (k : ℕ). grown (more (grown (grown a (p ++ replicate l z)) x) (inserted p x)) (replicate k z ++ ending p)) h.right
      ∙ walked s f a x n
      ∙ ap (grown a) (sym h.text)

  -- nothing is inserted where there is no prefix
  pub inserted_none : length (opening s w.format) ≡ 0 → w.inserted ≡ 0
  inserted_none p0 = h.between ∙ ap (λ (p : List ℕ). inserted p x) (empty (opening s w.format) p0) ∙ inserted_nil x
