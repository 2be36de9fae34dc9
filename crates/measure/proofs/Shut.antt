-- The eye, case by case. Assumes nothing.
use mathlib.Core.Path.{◌≡◌, refl, ap, sym, ◌∙◌}
use mathlib.Core.Bool.{Bool, true, false}
use Prim.Native.Nat.{ℕ, zero, suc}
use Rattle.widths.specs.declared.Rule.{Rule}
use Rattle.widths.specs.declared.Wides.{Wides}
use Rattle.widths.specs.Widths.{none_begun}
use Rattle.colour.specs.Seeing.{let_go}
use Rattle.measure.specs.declared.Eye.{Eye}
use Rattle.measure.specs.Measures.{fresh, let_go_in, let_go_by, behind_in, behind_padding}

-- by the crate's rule nothing opens it
pub shut_let_go : (e : Eye) (k : ℕ) → e.rule ≡ Rule.Characters → e ≡ let_go_by e k
shut_let_go e k h = ap (λ (r : Rule). let_go_in r e k) (sym h)

pub shut_behind : (e : Eye) (b : Bool) → e.rule ≡ Rule.Characters → e ≡ behind_padding e b
shut_behind e b h = ap (λ (r : Rule). behind_in r e b) (sym h)

-- by the places rule
module _ (e : Eye) (h : e.rule ≡ Rule.Places) where
  pub none_held : (k : ℕ) → k ≡ 0 → e ≡ let_go_by e k
  none_held k z = ap (λ (n : ℕ). let_go_in Rule.Places e n) (sym z) ∙ ap (λ (r : Rule). let_go_in r e k) (sym h)

  some_held_at : (k : ℕ) → (k ≡ 0 → ⊥) → fresh Rule.Places ≡ let_go_in Rule.Places e k
  some_held_at zero z = absurd (z refl)
  some_held_at (suc k) z = refl

  pub some_held : (k : ℕ) → (k ≡ 0 → ⊥) → fresh Rule.Places ≡ let_go_by e k
  some_held k z = some_held_at k z ∙ ap (λ (r : Rule). let_go_in r e k) (sym h)

  pub behind_seen : (b : Bool) → b ≡ true → fresh Rule.Places ≡ behind_padding e b
  behind_seen b z = ap (λ (x : Bool). behind_in Rule.Places e x) (sym z) ∙ ap (λ (r : Rule). behind_in r e b) (sym h)

  pub behind_unseen : (b : Bool) → b ≡ false → e ≡ behind_padding e b
  behind_unseen b z = ap (λ (x : Bool). behind_in Rule.Places e x) (sym z) ∙ ap (λ (r : Rule). behind_in r e b) (sym h)

-- bytes held, or none
pub let_go_none : (k : ℕ) (w : Wides) → k ≡ 0 → w ≡ let_go k w
let_go_none k w z = ap (λ (n : ℕ). let_go n w) (sym z)

pub let_go_some : (k : ℕ) (w : Wides) → (k ≡ 0 → ⊥) → none_begun w.wide ≡ let_go k w
let_go_some zero w z = absurd (z refl)
let_go_some (suc k) w z = refl
