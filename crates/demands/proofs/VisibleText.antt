-- A call for what is visible of a text answers as it must. Assumes nothing.
use Prim.Native.Nat.{ℕ, ◌≤◌, ◌<◌, ◌/◌, ◌%◌}
use mathlib.Core.Path.{◌≡◌, refl, ap, sym, ◌∙◌}
use mathlib.Core.Bool.{Bool, true, false}
use mathlib.Core.List.{List}
use mathlib.Core.Logic.{◌⊎◌, inl, inr}
use native.Mathlib.Omega.{arith}
use lib.Dec.{ltb}
use lib.ListN.{length}
use borrow.Author.Tests.{ltb-true, ltb-false}
use Rattle.refusals.specs.declared.Refusal.{Refusal}
use Rattle.colour.specs.Sequences.{visible}
use Rattle.answer.specs.Answers.{refused, in_room, Meets}
use Rattle.visible.specs.Visible.{too_long, visible_entry}
use Rattle.visible.proofs.Outcomes.{fits, too_long_lem}
use Rattle.demands.specs.Demand1.{number_of}
use Rattle.demands.specs.Demand2.{HoldsAtFront}
use Rattle.demands.specs.VisibleText.{visible_number, VisibleDemand}
use Rattle.demands.proofs.Numbers.{returns, number_told, length_told, length_of, room_line, room_none, room_either, room_length}
use Rattle.demands.proofs.Defined.{holds}

module _ (s lent : List ℕ) where
  by_length : (length s < too_long) ⊎ (too_long ≤ length s)
  by_length = by (ltb (length s) too_long) refl
    where
      by : (b : Bool) → ltb (length s) too_long ≡ b → (length s < too_long) ⊎ (too_long ≤ length s)
      by true e = inl (ltb-true (length s) too_long e)
      by false e = inr (ltb-false (length s) too_long e)

  -- a text of any length that a machine can lend
  short : length s < too_long → visible_entry s lent ≡ in_room (length lent) (visible s)
  short h = sym (fits s (length lent) h)

  short_number : length s < too_long → visible_number s lent ≡ number_of (in_room (length lent) (visible s))
  short_number h = ap number_of (short h)

  long_number : too_long ≤ length s → visible_number s lent ≡ 15
  long_number h = ap number_of (sym (too_long_lem s (length lent) h))

  not_15 : length s < too_long → visible_number s lent ≡ 15 → ⊥
  not_15 h k = by (room_either (length lent) (visible s))
    where
      by : (number_of (in_room (length lent) (visible s)) ≡ 0) ⊎ (number_of (in_room (length lent) (visible s)) ≡ 13) → ⊥
      by (inl e) = omega (arith, e, k, short_number h)
      by (inr e) = omega (arith, e, k, short_number h)

  -- a number other than 15 is that of a short text
  is_short_lem : (n : ℕ) → (n ≡ 15 → ⊥) → visible_number s lent ≡ n → length s < too_long
  is_short_lem n h k = by by_length
    where
      by : (length s < too_long) ⊎ (too_long ≤ length s) → length s < too_long
      by (inl g) = g
      by (inr g) = absurd (h (sym k ∙ long_number g))

  is_long_lem : visible_number s lent ≡ 15 → too_long ≤ length s
  is_long_lem k = by by_length
    where
      by : (length s < too_long) ⊎ (too_long ≤ length s) → too_long ≤ length s
      by (inl g) = absurd (not_15 g k)
      by (inr g) = g

  pub visible_demand : VisibleDemand s lent
  visible_demand = record {
    is_15 = (is_long_lem, long_number);
    is_13 = (
      (λ k. let h = is_short_lem 13 (λ e. omega (arith, e)) k in (h, (room_none (length lent) (visible s)).0 (sym (short_number h) ∙ k))),
      λ h. short_number h.0 ∙ (room_none (length lent) (visible s)).1 h.1,
    );
    needed = λ h left answer m. length_told (visible_entry s lent) lent left answer m ∙ ap length_of (short h) ∙ room_length (length lent) (visible s);
    is_0 = (
      (λ k. let h = is_short_lem 0 (λ e. omega (arith, e)) k in (h, (room_line (length lent) (visible s)).0 (sym (short_number h) ∙ k))),
      λ h. short_number h.0 ∙ (room_line (length lent) (visible s)).1 h.1,
    );
    shown = λ left answer m k.
        let h = is_short_lem 0 (λ e. omega (arith, e)) (sym (number_told (visible_entry s lent) lent left answer m) ∙ k) in
        holds (visible_entry s lent) (visible s) lent left answer (short h) m k;
    returns = returns (visible_entry s lent) lent;
  }
