-- The table of wide characters: its order, and two stretches of it. Assumes nothing.
use Prim.Native.Nat.{ℕ, ◌<◌, ◌≤◌}
use mathlib.Core.Path.{◌≡◌, refl, sym}
use mathlib.Core.Bool.{true, false}
use native.Mathlib.Omega.{arith}
use lib.ListN.{length, get_or}
use Rattle.points.specs.Ranges.{ends}
use Rattle.points.specs.Searching.{Rising}
use Rattle.points.proofs.Order.{rises}
use Rattle.points.proofs.Halving.{up_to_next, up_to_none}
use Rattle.points.proofs.Lookup.{among_odd}
use Rattle.widths.specs.Wide.{wide}
use Rattle.widths.specs.Widths.{is_wide, wide_in_order}

pub rising : Rising (ends wide)
rising = rises 0 (ends wide) wide_in_order

first : get_or (ends wide) 0 0 ≡ 0x1100
unfolding ends wide
first = refl

-- nothing before the first range is wide
pub narrow : (x : ℕ) → x < 0x1100 → is_wide x ≡ false
unfolding is_wide
narrow x h = sym (among_odd wide x 0 (up_to_none (ends wide) x rising (omega (arith, first, h))))

-- the long range: ideographs, and what stands between them
many : 97 < length (ends wide)
unfolding ends wide
many = omega arith

long : get_or (ends wide) 96 0 ≡ 0x3250
unfolding ends wide
long = refl

long_end : get_or (ends wide) 97 0 ≡ 0xA48D
unfolding ends wide
long_end = refl

pub ideograph : (x : ℕ) → 0x3250 ≤ x → x < 0xA48D → is_wide x ≡ true
unfolding is_wide
ideograph x f g = sym (among_odd wide x 97 (up_to_next (ends wide) x 96 rising many (omega (arith, long, f)) (omega (arith, long_end, g))))
