-- A refusal is known by its number, and an answer tells it. Assumes nothing.
use Prim.Native.Nat.{ℕ, ◌+◌, ◌*◌, ◌≤◌, ◌<◌, ◌/◌, ◌%◌}
use mathlib.Core.Path.{◌≡◌, refl, ap, sym, subst, ◌∙◌}
use mathlib.Core.Bool.{Bool, true, false}
use mathlib.Core.List.{List, [], ◌∷◌}
use mathlib.Core.Logic.{◌↔◌, ◌⊎◌, inl, inr}
use native.Mathlib.Omega.{arith}
use lib.Dec.{leb}
use lib.ListN.{length, get_or}
use borrow.Author.Tests.{leb-true, leb-false, le-leb, lt-leb}
use Rattle.refusals.specs.declared.Refusal.{Refusal}
use Rattle.refusals.specs.declared.Refusal.TheVariants.{TemplateTooLong, TemplateNotUtf8, Failure, NoMessage, TooManySegments, TooDeep, TooWide, TooManyF, HalfEscape, FieldTooLong, FieldNotUtf8, LineTooLong, NotARecord, NotASheet, Dropped}
use Rattle.refusals.specs.Numbers.{number, value_with}
use Rattle.builtin.specs.declared.Style.{Style}
use Rattle.builtin.specs.Builtins.{builtin_text}
use Rattle.answer.specs.Answers.{Outcome, line, refused, in_room, buffer_after, packed, Meets}
use Rattle.demands.specs.Demand1.{number_of, Returns, builtin_entry, BuiltinDemand1}

-- ---- numbers

pub numbers : (r : Refusal) → (1 ≤ number r) × (number r ≤ 17) × (number r ≡ 10 → ⊥) × (number r ≡ 16 → ⊥)
numbers TemplateTooLong = omega arith
numbers TemplateNotUtf8 = omega arith
numbers Failure = omega arith
numbers NoMessage = omega arith
numbers TooManySegments = omega arith
numbers TooDeep = omega arith
numbers TooWide = omega arith
numbers TooManyF = omega arith
numbers HalfEscape = omega arith
numbers FieldTooLong = omega arith
numbers FieldNotUtf8 = omega arith
numbers (LineTooLong n) = omega arith
numbers NotARecord = omega arith
numbers NotASheet = omega arith
numbers (Dropped p) = omega arith

-- the refusal with a number, and with the length or place that it tells (none has 0, 10 or 16)
refusal_at : ℕ → ℕ → Refusal
refusal_at k n =
    get_or
    (NotASheet
    ∷ TemplateTooLong
    ∷ TemplateNotUtf8
    ∷ Failure
    ∷ NoMessage
    ∷ TooManySegments
    ∷ TooDeep
    ∷ TooWide
    ∷ TooManyF
    ∷ HalfEscape
    ∷ NotASheet
    ∷ FieldTooLong
    ∷ FieldNotUtf8
    ∷ LineTooLong n
    ∷ NotARecord
    ∷ NotASheet
    ∷ NotASheet
    ∷ Dropped n
    ∷ [])
    k NotASheet

by_number : (r : Refusal) → refusal_at (number r) (value_with r) ≡ r
unfolding refusal_at
by_number TemplateTooLong = refl
by_number TemplateNotUtf8 = refl
by_number Failure = refl
by_number NoMessage = refl
by_number TooManySegments = refl
by_number TooDeep = refl
by_number TooWide = refl
by_number TooManyF = refl
by_number HalfEscape = refl
by_number FieldTooLong = refl
by_number FieldNotUtf8 = refl
by_number (LineTooLong n) = refl
by_number NotARecord = refl
by_number NotASheet = refl
by_number (Dropped p) = refl

-- only 13 tells a length, and 17 a place
abbrev pub Alone : Refusal → Type 0
Alone r = (number r ≡ 13 → ⊥) × (number r ≡ 17 → ⊥)

alone : (r : Refusal) → Alone r → value_with r ≡ 0
alone TemplateTooLong h = refl
alone TemplateNotUtf8 h = refl
alone Failure h = refl
alone NoMessage h = refl
alone TooManySegments h = refl
alone TooDeep h = refl
alone TooWide h = refl
alone TooManyF h = refl
alone HalfEscape h = refl
alone FieldTooLong h = refl
alone FieldNotUtf8 h = refl
alone (LineTooLong n) h = absurd (h.0 refl)
alone NotARecord h = refl
alone NotASheet h = refl
alone (Dropped p) h = absurd (h.1 refl)

-- two refusals with one number are one, but for what is told besides
pub one_number : (q r : Refusal) → number q ≡ number r → value_with q ≡ value_with r → q ≡ r
one_number q r e l = sym (by_number q) ∙ (λ i. refusal_at (e i) (l i)) ∙ by_number r

pub one_refusal : (q r : Refusal) → Alone r → number q ≡ number r → q ≡ r
one_refusal q r h e = one_number q r e (alone q ((λ k. h.0 (sym e ∙ k)), (λ k. h.1 (sym e ∙ k))) ∙ sym (alone r h))

-- ---- outcomes

pub refused_of : (o : Outcome) (r : Refusal) → Alone r → number_of o ≡ number r → o ≡ refused r
refused_of (line s) r h e = let z : ⊥ = omega (arith, numbers r, e) in absurd z
refused_of (refused q) r h e = ap refused (one_refusal q r h e)

-- what the outcome tells besides its number
pub length_of : Outcome → ℕ
length_of (line s) = length s
length_of (refused r) = value_with r

pub line_of : (o : Outcome) → number_of o ≡ 0 → (x : List ℕ) × (o ≡ line x)
line_of (line s) e = (s, refl)
line_of (refused r) e = let z : ⊥ = omega (arith, numbers r, e) in absurd z

pub too_long_of : (o : Outcome) → number_of o ≡ 13 → o ≡ refused (LineTooLong (length_of o))
unfolding length_of
too_long_of (line s) e = let z : ⊥ = omega arith in absurd z
too_long_of (refused r) e = ap refused (one_number r (LineTooLong (value_with r)) e refl)

pub dropped_of : (o : Outcome) → number_of o ≡ 17 → o ≡ refused (Dropped (length_of o))
unfolding length_of
dropped_of (line s) e = let z : ⊥ = omega arith in absurd z
dropped_of (refused r) e = ap refused (one_number r (Dropped (value_with r)) e refl)

pub dropped_told : (p : ℕ) → length_of (refused (Dropped p)) ≡ p
unfolding length_of
dropped_told p = refl

pub never_ten : (o : Outcome) → number_of o ≡ 10 → ⊥
never_ten (line s) e = omega arith
never_ten (refused r) e = (numbers r).2 e

never_sixteen : (o : Outcome) → number_of o ≡ 16 → ⊥
never_sixteen (line s) e = omega arith
never_sixteen (refused r) e = (numbers r).3 e

packs : (o : Outcome) → (packed o ≡ number_of o + 256 * length_of o) × (number_of o ≤ 17)
unfolding packed length_of
packs (line s) = (omega arith, omega arith)
packs (refused r) = (refl, (numbers r).1)

pub number_told : (o : Outcome) (lent left : List ℕ) (answer : ℕ) → Meets o lent left answer → answer % 256 ≡ number_of o
number_told o lent left answer m = omega (arith, packs o, m.returned)

pub length_told : (o : Outcome) (lent left : List ℕ) (answer : ℕ) → Meets o lent left answer → answer / 256 ≡ length_of o
length_told o lent left answer m = omega (arith, packs o, m.returned)

-- what is refused tells nothing besides but for 13 and 17, and leaves the buffer as it is
no_length : (o : Outcome) → (number_of o ≡ 0 → ⊥) → (number_of o ≡ 13 → ⊥) → (number_of o ≡ 17 → ⊥) → length_of o ≡ 0
unfolding length_of
no_length (line s) h g k = absurd (h refl)
no_length (refused r) h g k = alone r (g, k)

unchanged : (o : Outcome) (lent : List ℕ) → (number_of o ≡ 0 → ⊥) → buffer_after lent o ≡ lent
unfolding buffer_after
unchanged (line s) lent h = absurd (h refl)
unchanged (refused r) lent h = refl

pub returns : (o : Outcome) (lent : List ℕ) → Returns o lent
returns o lent = record {
  numbered = ((packs o).1, never_ten o, never_sixteen o);
  told = number_told o lent;
  no_length = λ left answer m h g f.
      let e = number_told o lent left answer m in
      length_told o lent left answer m ∙ no_length o (λ k. h (e ∙ k)) (λ k. g (e ∙ k)) (λ k. f (e ∙ k));
  untouched = λ left answer m h. m.buffer ∙ unchanged o lent (λ k. h (number_told o lent left answer m ∙ k));
}

-- ---- the room for a text

module _ (room : ℕ) (x : List ℕ) where
  abbrev ByRoom : Bool → Outcome
  ByRoom b = elim b [ true ↦ line x | false ↦ refused (LineTooLong (length x)) ]

  pub room_line : number_of (in_room room x) ≡ 0 ↔ (length x ≤ room)
  unfolding in_room
  room_line = (by (leb (length x) room) refl, λ h. rw (le-leb (length x) room h, in_room))
    where
      by : (b : Bool) → leb (length x) room ≡ b → number_of (ByRoom b) ≡ 0 → length x ≤ room
      by true e k = leb-true (length x) room e
      by false e k = let z : ⊥ = omega arith in absurd z

  pub room_none : number_of (in_room room x) ≡ 13 ↔ (room < length x)
  unfolding in_room
  room_none = (by (leb (length x) room) refl, λ h. rw (lt-leb (length x) room h, in_room))
    where
      by : (b : Bool) → leb (length x) room ≡ b → number_of (ByRoom b) ≡ 13 → room < length x
      by true e k = let z : ⊥ = omega arith in absurd z
      by false e k = leb-false (length x) room e

  pub room_either : (number_of (in_room room x) ≡ 0) ⊎ (number_of (in_room room x) ≡ 13)
  unfolding in_room
  room_either = by (leb (length x) room)
    where
      by : (b : Bool) → (number_of (ByRoom b) ≡ 0) ⊎ (number_of (ByRoom b) ≡ 13)
      by true = inl refl
      by false = inr refl

  pub room_length : length_of (in_room room x) ≡ length x
  unfolding in_room length_of
  room_length = by (leb (length x) room)
    where
      by : (b : Bool) → length_of (ByRoom b) ≡ length x
      by true = refl
      by false = refl

  -- where it fits, it stands at the buffer's front
  pub room_is : length x ≤ room → in_room room x ≡ line x
  unfolding in_room
  room_is h = rw (le-leb (length x) room h, in_room)

pub builtin_demand1 : (style : Style) (location timestamp host : Bool) (lent : List ℕ) → BuiltinDemand1 style location timestamp host lent
builtin_demand1 style location timestamp host lent =
    let x = builtin_text style location timestamp host in
    record {
      is_13 = room_none (length lent) x;
      is_0 = room_line (length lent) x;
      numbered = room_either (length lent) x;
      returns = returns (builtin_entry style location timestamp host lent) lent;
    }

-- ---- exactly when

-- a table W says of each answer when it is given, and holds of the answer a: then a has the number of b exactly where W says so of b
module _ {A : Type 0} (W : A → Type 0) (a : A) (holds : W a) where
  pub exactly : (b : A) → (W b → a ≡ b) → (a ≡ b) ↔ W b
  exactly b only = ((λ e. subst W e holds), only)

  pub numbered : (num : A → ℕ) (b : A) → (num a ≡ num b → a ≡ b) → (W b → a ≡ b) → (num a ≡ num b) ↔ W b
  numbered num b known only = ((λ e. subst W (known e) holds), (λ w. ap num (only w)))
