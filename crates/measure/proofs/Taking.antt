-- Texts that a sink takes one after the other: what is still to be taken, and what is then left. Assumes nothing.
use Rattle.std.proofs.Common.{◌≡◌, refl, ℕ, List, [], ◌++◌, ap, sym, ◌∙◌, subst}
use Rattle.measure.specs.Sinks.{SinkLaws}

-- with r still to be taken, the sink x and the buffer d are on the way from y and b, where w was to be taken
pub record Owes {S : Type 0} (fits : S → List ℕ → List ℕ → Type 0) (after : S → List ℕ → S) (left : S → List ℕ → List ℕ → List ℕ) (y : S) (b w : List ℕ) (x : S) (d r : List ℕ) : Type 0 where
  pub fit : fits x d r
  pub value : after x r ≡ after y w
  pub buffer : left x d r ≡ left y b w

module _ {S : Type 0} {fits : S → List ℕ → List ℕ → Type 0} {after : S → List ℕ → S} {left : S → List ℕ → List ℕ → List ℕ} (laws : SinkLaws fits after left) where
  -- all of it
  pub owes_all : (y : S) (b w : List ℕ) → fits y b w → Owes fits after left y b w y b w
  owes_all y b w h = record { fit = h; value = refl; buffer = refl }

  module _ {y x : S} {b w d r : List ℕ} (o : Owes fits after left y b w x d r) where
    -- a text at its front fits
    pub first_fits : (s t : List ℕ) → r ≡ s ++ t → fits x d s
    first_fits s t e = laws.fits_first x d s t (subst (λ u. fits x d u) e o.fit)

    -- once it is taken, the others are owed
    pub owes_rest : (s t : List ℕ) → r ≡ s ++ t → (x' : S) (d' : List ℕ) → x' ≡ after x s → d' ≡ left x d s → Owes fits after left y b w x' d' t
    owes_rest s t e x' d' p q =
        let h = subst (λ u. fits x d u) e o.fit in
        let v : after (after x s) t ≡ after y w = laws.after_both x s t ∙ ap (after x) (sym e) ∙ o.value in
        let l : left (after x s) (left x d s) t ≡ left y b w = laws.left_both x d s t h ∙ ap (left x d) (sym e) ∙ o.buffer in
        record {
          fit = subst (λ u. fits u d' t) (sym p) (subst (λ u. fits (after x s) u t) (sym q) (laws.fits_then x d s t h));
          value = ap (λ u. after u t) p ∙ v;
          buffer = ap (λ u. left u d' t) p ∙ ap (λ u. left (after x s) u t) q ∙ l;
        }

    -- nothing is owed: this is what was asked
    pub value_paid : r ≡ [] → x ≡ after y w
    value_paid e = sym (laws.after_none x) ∙ ap (after x) (sym e) ∙ o.value

    pub buffer_paid : r ≡ [] → d ≡ left y b w
    buffer_paid e = sym (laws.left_none x d) ∙ ap (left x d) (sym e) ∙ o.buffer
