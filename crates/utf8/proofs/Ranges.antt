-- Laws of `within`, whether a byte lies in a range. Assumes nothing.
use mathlib.Core.Path.{◌≡◌, refl}
use mathlib.Core.Bool.{Bool, true, false}
use Prim.Native.Nat.{ℕ, ◌<◌, ◌≤◌}
use lib.Dec.{leb}
use borrow.Author.Tests.{le-leb, lt-leb, leb-true}
use Rattle.utf8.specs.Utf8.{Range, ◌to◌, within}

pub within_in : (l h b : ℕ) → l ≤ b → b ≤ h → within (l to h) b ≡ true
unfolding within
within_in l h b f g = rw (le-leb l b f, le-leb b h g, within)

pub within_below : (l h b : ℕ) → b < l → within (l to h) b ≡ false
unfolding within
within_below l h b f = rw (lt-leb l b f, within)

neither : (t u : Bool) → u ≡ false → elim t [ true ↦ u | false ↦ false ] ≡ false
neither true u e = e
neither false u e = refl

pub within_above : (l h b : ℕ) → h < b → within (l to h) b ≡ false
unfolding within
within_above l h b f = neither (leb l b) (leb b h) (lt-leb b h f)

both : (t u : Bool) → elim t [ true ↦ u | false ↦ false ] ≡ true → (t ≡ true) × (u ≡ true)
both true u e = (refl, e)
both false u e = (cc, cc)

-- what it means that a byte lies in a range
pub within_true : (r : Range) (b : ℕ) → within r b ≡ true → (r.first ≤ b) × (b ≤ r.last)
unfolding within
within_true r b e =
    let t = both (leb r.first b) (leb b r.last) e in
    (leb-true r.first b t.0, leb-true b r.last t.1)
