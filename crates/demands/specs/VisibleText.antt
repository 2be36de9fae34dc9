-- Demand 1, of a call for what is visible of a text, and what it answers: the text with its colour sequences taken out once, left to right.
-- Any bytes may be given. Assumes nothing.
use Rattle.std.specs.Prelude.{ℕ, ◌≤◌, ◌<◌, ◌/◌, ◌%◌, ◌≡◌, List, ◌↔◌, length}
use Rattle.colour.specs.Sequences.{visible}
use Rattle.answer.specs.Answers.{Meets}
use Rattle.visible.specs.Visible.{too_long, visible_entry}
use Rattle.demands.specs.Demand1.{number_of, Returns}
use Rattle.demands.specs.Demand2.{HoldsAtFront}

-- the number of the call
abbrev pub visible_number : List ℕ → List ℕ → ℕ
visible_number s lent = number_of (visible_entry s lent)

-- each number exactly when, and what is answered
pub record VisibleDemand (s lent : List ℕ) : Type 0 where
  -- a text whose length an answer has no place for
  pub is_15 : visible_number s lent ≡ 15 ↔ (too_long ≤ length s)
  -- what is visible is longer than the lent buffer; the needed length is returned
  pub is_13 : visible_number s lent ≡ 13 ↔ ((length s < too_long) × (length lent < length (visible s)))
  pub needed : length s < too_long → (left : List ℕ) (answer : ℕ) → Meets (visible_entry s lent) lent left answer → answer / 256 ≡ length (visible s)
  -- what is visible, at the front of the lent buffer; the rest of it is as it was
  pub is_0 : visible_number s lent ≡ 0 ↔ ((length s < too_long) × (length (visible s) ≤ length lent))
  pub shown : (left : List ℕ) (answer : ℕ) → Meets (visible_entry s lent) lent left answer → answer % 256 ≡ 0 → HoldsAtFront (visible s) lent left answer
  pub returns : Returns (visible_entry s lent) lent
