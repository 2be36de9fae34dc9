-- One segment more at the end: how many there are then, how deep they stand and what they name. Assumes nothing.
use Prim.Native.Nat.{ℕ, zero, suc, ◌+◌, ◌≤◌}
use mathlib.Core.Path.{◌≡◌, sym, ap, ◌∙◌}
use mathlib.Core.Bool.{Bool, ◌||◌, or-false, or_assoc}
use native.Mathlib.Omega.{arith}
use Rattle.words.specs.declared.LogMetadata.{LogMetadata}
use Rattle.segments.specs.Segments.{LogSegment, LogSegments, text, specifier, group, none, more, ◌and_then◌, is_specifier, any_specifier, named_in, named_among}
use Rattle.segments.specs.Sizes.{size, sizes, Low, Lows}

pub sizes_and_then : (s : LogSegments) (x : LogSegment) → sizes (s and_then x) ≡ sizes s + size x
unfolding sizes ◌and_then◌
sizes_and_then none x = omega arith
sizes_and_then (more y rest) x = omega (arith, sizes_and_then rest x)

pub any_and_then : (s : LogSegments) (x : LogSegment) → any_specifier (s and_then x) ≡ (any_specifier s || is_specifier x)
unfolding any_specifier ◌and_then◌
any_and_then none x = or-false (is_specifier x)
any_and_then (more y rest) x =
    ap (λ (b : Bool). is_specifier y || b) (any_and_then rest x) ∙ sym (or_assoc (is_specifier y) (any_specifier rest) (is_specifier x))

pub named_and_then : (kind : LogMetadata → Bool) (s : LogSegments) (x : LogSegment) → named_among kind (s and_then x) ≡ (named_among kind s || named_in kind x)
unfolding named_among ◌and_then◌
named_and_then kind none x = or-false (named_in kind x)
named_and_then kind (more y rest) x =
    ap (λ (b : Bool). named_in kind y || b) (named_and_then kind rest x) ∙ sym (or_assoc (named_in kind y) (named_among kind rest) (named_in kind x))

pub lows_and_then : (d : ℕ) (s : LogSegments) (x : LogSegment) → Lows d s → Low d x → Lows d (s and_then x)
unfolding ◌and_then◌
lows_and_then d none x h g = (g, tt)
lows_and_then d (more y rest) x h g = (h.0, lows_and_then d rest x h.1 g)

-- what stands d groups deep at most stands so for each greater number
mutual
  pub low_more : (d e : ℕ) (x : LogSegment) → d ≤ e → Low d x → Low e x
  low_more d e (text i j) h g = tt
  low_more d e (specifier m f) h g = g
  low_more zero e (group s f) h g = absurd g
  low_more (suc d) zero (group s f) h g = absurd (let z : ⊥ = omega arith in z)
  low_more (suc d) (suc e) (group s f) h g = (g.0, lows_more d e s (omega arith) g.1)

  pub lows_more : (d e : ℕ) (s : LogSegments) → d ≤ e → Lows d s → Lows e s
  lows_more d e none h g = tt
  lows_more d e (more x rest) h g = (low_more d e x h g.0, lows_more d e rest h g.1)
