-- What is so where the search rests. Assumes nothing.
use Prim.Native.Nat.{ℕ}
use mathlib.Core.Path.{◌≡◌, refl}
use mathlib.Core.Bool.{true}
use borrow.Author.Tests.{eqb-true}
use Rattle.colour.specs.declared.State.{State}
use Rattle.colour.specs.declared.State.TheVariants.{Outside, Escape, Bracket, LoneZero, Digits}
use Rattle.scanning.specs.Resting.{is_resting}
use Rattle.scanning.proofs.Searched.{never}

pub rests_outside : (q : State) (held : ℕ) → is_resting q held ≡ true → (q ≡ Outside) × (held ≡ 0)
rests_outside Outside held e = (refl, eqb-true _ _ e)
rests_outside Escape held e = absurd (never e)
rests_outside Bracket held e = absurd (never e)
rests_outside LoneZero held e = absurd (never e)
rests_outside Digits held e = absurd (never e)
