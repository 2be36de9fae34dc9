-- Where words and texts end, one law for each case. Assumes nothing.
use Prim.Native.Nat.{ℕ, ◌+◌, ◌-◌, ◌≤◌}
use mathlib.Core.Path.{◌≡◌, refl, sym, ap, ◌∙◌}
use mathlib.Core.Bool.{true, false}
use mathlib.Core.List.{List}
use native.Mathlib.Omega.{arith}
use Rattle.std.specs.Prelude.{Some, None}
use Rattle.buffer.specs.Bytes.{byte}
use Rattle.buffer.specs.Table.{Maybe, none, some}
use Rattle.refusals.specs.declared.Refusal.{Refusal}
use Rattle.words.specs.declared.Parameter.{Parameter}
use Rattle.words.specs.declared.LogMetadata.{LogMetadata}
use Rattle.runs.specs.Runs.{stands}
use Rattle.words.specs.Trying.{Tried, fit, misfit, refused, ◌or_else◌, ◌then◌, further, listed}
use Rattle.words.specs.Words.{specifier_at, parameter_at}
use Rattle.words.proofs.Attempts.{listed_fit, listed_misfit, listed_refused}
use Rattle.parts.specs.declared.Parts.{Parts}
use Rattle.parts.specs.Parts.{no_parts, with_specifier, with_parameter}
use Rattle.segments.specs.Segments.{LogSegment}
use Rattle.building.specs.Reading.{make, make_or, word_at, inner_at, percent_at}
use Rattle.lists.proofs.Worded.{from_none}
use Rattle.endings.specs.Ending.{Ends, end_of, named_end, made_end, EndsWithin}

-- ---- ends

pub ends_failing : {A : Type 0} (x : Tried A) → end_of (x or_else λ _. refused Refusal.Failure) ≡ end_of x
unfolding ◌or_else◌
ends_failing (fit a j) = refl
ends_failing misfit = refl
ends_failing (refused r) = refl

pub ends_then : {A B : Type 0} (x : Tried A) (f : A → B) → end_of (x then λ a j. fit (f a) j) ≡ end_of x
unfolding ◌then◌
ends_then (fit a j) f = refl
ends_then misfit f = refl
ends_then (refused r) f = refl

pub ends_wider : (lo lo' to : ℕ) (o : Ends) → lo' ≤ lo → EndsWithin lo to o → EndsWithin lo' to o
ends_wider lo lo' to (Some j) h w = (omega (arith, w.0), w.1)
ends_wider lo lo' to None h w = tt

-- ---- a word: a specifier, else a parameter

-- where what is read of words ends, if it names a specifier
abbrev pub named_of : Tried Parts → Ends
named_of (fit q j) = named_end q.metadata j
named_of misfit = None
named_of (refused r) = None

pub word_named : (t : List ℕ) (i e : ℕ) (p : Parts) → p ≡ no_parts → named_of (word_at t e i p) ≡ end_of (specifier_at t i e)
unfolding word_at ◌or_else◌ ◌then◌ with_specifier with_parameter
word_named t i e p unnamed = by (specifier_at t i e) (parameter_at t i e)
  where
    by : (x : Tried LogMetadata) (y : Tried Parameter)
        → named_of ((x then λ m j. fit (with_specifier p m) j) or_else λ _. y then λ a j. fit (with_parameter p a) j) ≡ end_of x
    by (fit m k) y = refl
    by misfit (fit a k) = ap (λ (q : Parts). named_end q.metadata k) unnamed
    by misfit misfit = refl
    by misfit (refused r) = refl
    by (refused r) y = refl

-- ---- words that make a segment

pub made_within : (m : Maybe LogSegment) (j lo to : ℕ) → lo ≤ j → j ≤ to → (r : Ends) → r ≡ end_of (make_or misfit 0 j m) → EndsWithin lo to r
unfolding make_or make
made_within none j lo to h g r q = rw q tt
made_within (some x) j lo to h g r q = rw q (h, g)

-- the first word of an inner list, and what follows it
module _ (t : List ℕ) (i e : ℕ) (p : Parts) (unnamed : p ≡ no_parts) where
  abbrev list : Tried Parts
  list = listed (byte ":") t e (word_at t e) i p

  makes_inner : (z : Tried Parts) → list ≡ z → made_end z ≡ end_of (inner_at t i e 0)
  unfolding inner_at
  makes_inner z q = ap made_end (sym q ∙ from_none (byte ":") t i e p unnamed)

  pub inner_goes_on : (q : Parts) (j : ℕ) → word_at t e i p ≡ fit q j → i ≤ j → (r : Ends)
      → ((n : ℕ) → e - j ≤ n → r ≡ made_end (further (byte ":") t e (word_at t e) n j q)) → r ≡ end_of (inner_at t i e 0)
  inner_goes_on q j w h r f = let l = listed_fit (byte ":") t e (word_at t e) i p q j w h in f l.0 l.1 ∙ makes_inner _ (sym l.2)

  pub inner_misfits : word_at t e i p ≡ misfit → None ≡ end_of (inner_at t i e 0)
  unfolding ◌then◌
  inner_misfits w = makes_inner misfit (listed_misfit (byte ":") t e (word_at t e) i p w)

  pub inner_refused : (k : Refusal) → word_at t e i p ≡ refused k → None ≡ end_of (inner_at t i e 0)
  unfolding ◌then◌
  inner_refused k w = makes_inner (refused k) (listed_refused (byte ":") t e (word_at t e) i p k w)

-- ---- `%`

module _ (t : List ℕ) (i e : ℕ) where
  pub percent_nowhere : stands (byte "%") t i e ≡ false → None ≡ end_of (percent_at t i e)
  unfolding percent_at
  percent_nowhere b = rw (b, percent_at)

  pub percent_there : stands (byte "%") t i e ≡ true → end_of (parameter_at t (i + 1) e) ≡ end_of (percent_at t i e)
  unfolding percent_at
  percent_there b = rw (b, percent_at) (sym (ends_failing (parameter_at t (i + 1) e)))
