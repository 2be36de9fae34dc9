-- Scaffolding, for proofs alone: where a text goes: what is asked of a sink, and a count of bytes and a place of a buffer after a text. Assumes nothing.
use Rattle.std.specs.Prelude.{ℕ, ◌≡◌, ◌+◌, List, [], ◌++◌, length}
use Rattle.measure.specs.declared.sink.Count.{Count}
use Rattle.measure.specs.declared.sink.Place.{Place}

-- two texts, one after the other, are one, and no text changes nothing
pub record SinkLaws {S : Type 0} (fits : S → List ℕ → List ℕ → Type 0) (after : S → List ℕ → S) (left : S → List ℕ → List ℕ → List ℕ) : Type 0 where
  pub fits_first : (x : S) (d s t : List ℕ) → fits x d (s ++ t) → fits x d s
  pub fits_then : (x : S) (d s t : List ℕ) → fits x d (s ++ t) → fits (after x s) (left x d s) t
  pub after_both : (x : S) (s t : List ℕ) → after (after x s) t ≡ after x (s ++ t)
  pub left_both : (x : S) (d s t : List ℕ) → fits x d (s ++ t) → left (after x s) (left x d s) t ≡ left x d (s ++ t)
  pub after_none : (x : S) → after x [] ≡ x
  pub left_none : (x : S) (d : List ℕ) → left x d [] ≡ d

-- so many bytes more
abbrev pub count_after : Count → List ℕ → Count
count_after n s = record { 0 = n.0 + length s }

-- the place after a text
abbrev pub place_after : Place → List ℕ → Place
place_after at s = record { 0 = at.0 + length s }
