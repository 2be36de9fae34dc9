-- Whether a specifier is named, member by member back along the links. Assumes nothing.
use Prim.Native.Nat.{ℕ, ◌+◌, ◌-◌, ◌<◌}
use mathlib.Core.Path.{◌≡◌, sym, ap, ◌∙◌}
use mathlib.Core.Bool.{Bool, true, false, ◌||◌, or-true, or-false}
use mathlib.Core.List.{List}
use native.Mathlib.Omega.{arith}
use Rattle.words.specs.declared.LogMetadata.{LogMetadata}
use Rattle.segments.specs.declared.Cell.{Cell}
use Rattle.segments.specs.declared.Kind.{Kind}
use Rattle.segments.specs.Segments.{named_in, named_among}
use Rattle.segments.specs.Pool.{kind_at, back, last_member, segment_at, chain_at}
use Rattle.segments.proofs.Joining.{named_and_then}
use Rattle.segments.proofs.Chains.{chain_none, chain_step, segment_text_lem, segment_specifier, segment_group}

module _ (kind : LogMetadata → Bool) (p : List Cell) where
  -- one segment, by its kind
  module _ (i : ℕ) (k : Kind) (e : k ≡ kind_at p i) where
    pub named_text : {from to : ℕ} → k ≡ Kind.Text from to → false ≡ named_in kind (segment_at p i)
    unfolding named_in
    named_text g = sym (ap (named_in kind) (segment_text_lem p i (sym e ∙ g)))

    pub named_specifier : (m : LogMetadata) → k ≡ Kind.Specifier m → (r : Bool) → r ≡ kind m → r ≡ named_in kind (segment_at p i)
    unfolding named_in
    named_specifier m g r f = f ∙ sym (ap (named_in kind) (segment_specifier p i m (sym e ∙ g)))

    pub named_group : {last : ℕ} → k ≡ Kind.Group last → (l : ℕ) → l ≡ last_member p i → (r : Bool) → r ≡ named_among kind (chain_at p l) → r ≡ named_in kind (segment_at p i)
    unfolding named_in
    named_group g l u r f =
        f ∙ ap (λ (x : ℕ). named_among kind (chain_at p x)) u ∙ sym (ap (named_in kind) (segment_group p i (sym e ∙ g)))

  -- members back from a link
  pub named_none : (j : ℕ) → j ≡ 0 → false ≡ named_among kind (chain_at p j)
  unfolding named_among
  named_none j e = sym (ap (λ (x : ℕ). named_among kind (chain_at p x)) e ∙ ap (named_among kind) (chain_none p))

  named_step : (j : ℕ) → 0 < j → named_among kind (chain_at p j) ≡ (named_among kind (chain_at p (back p (j - 1))) || named_in kind (segment_at p (j - 1)))
  named_step j h =
      ap (λ (x : ℕ). named_among kind (chain_at p x)) (let e : j ≡ j - 1 + 1 = omega arith in e)
      ∙ ap (named_among kind) (chain_step p (j - 1))
      ∙ named_and_then kind (chain_at p (back p (j - 1))) (segment_at p (j - 1))

  module _ (j : ℕ) (h : 0 < j) (r : Bool) (e : r ≡ named_in kind (segment_at p (j - 1))) where
    pub named_here : r ≡ true → true ≡ named_among kind (chain_at p j)
    named_here g =
        let b = named_among kind (chain_at p (back p (j - 1))) in
        sym (named_step j h ∙ ap (λ (x : Bool). b || x) (sym e ∙ g) ∙ or-true b)

    pub named_on : r ≡ false → (l : ℕ) → l ≡ back p (j - 1) → named_among kind (chain_at p l) ≡ named_among kind (chain_at p j)
    named_on g l u =
        let b = named_among kind (chain_at p (back p (j - 1))) in
        ap (λ (x : ℕ). named_among kind (chain_at p x)) u ∙ sym (named_step j h ∙ ap (λ (x : Bool). b || x) (sym e ∙ g) ∙ or-false b)
