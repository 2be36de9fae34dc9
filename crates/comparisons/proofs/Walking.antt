-- The last two lines, line by line. Assumes nothing.
use Rattle.std.specs.Prelude.{Some, None}
use mathlib.Core.Path.{◌≡◌, refl, ap, sym, ◌∙◌, subst}
use mathlib.Core.List.{List, [], ◌∷◌, ◌++◌}
use Prim.Native.Nat.{ℕ, ◌+◌, ◌<◌, ◌≤◌}
use native.Mathlib.Omega.{arith}
use lib.ListN.{length, get_or}
use Rattle.buffer.specs.Bytes.{part}
use Rattle.buffer.proofs.Parts.{part_step, part_end}
use Rattle.comparisons.specs.Comparisons.{lines, by_lines, comparison}
use Rattle.comparisons.specs.Places.{Closed, LineAt, by_ending}
use Rattle.comparisons.specs.declared.Lined.{Lined}
use Rattle.comparisons.proofs.Parts.{part_join, part_none}
use Rattle.comparisons.proofs.Lining.{Apart, apart_nil, apart_more, lines_nil, lines_some, by_turn, by_two, by_one, by_none, by_last}

-- two lines are held, what lies before them is apart, what lies after them is still to come
pub record Walked (d : List ℕ) (from to left stop right last next : ℕ) : Type 0 where
  pub inside : ((from ≤ left) × (left ≤ stop)) × ((stop ≤ right) × (right ≤ last))
  pub ahead : (last ≤ next) × (next ≤ to)
  pub rising : left < right
  pub below : right < next
  pub apart : Apart (part from left d)
  pub closed : Closed (part left right d) (part left stop d)
  pub further : next < to → Closed (part right next d) (part right last d)
  pub says : comparison (part from to d) ≡ by_lines (lines (part from left d)) (part left stop d ∷ (part right last d ∷ lines (part next to d)))

no_lines : (d : List ℕ) (i e : ℕ) → e ≤ i → lines (part i e d) ≡ []
no_lines d i e h = ap lines (part_none d i e h) ∙ lines_nil

is_by_lines : (m : List ℕ) → comparison m ≡ by_lines [] (lines m)
unfolding comparison
is_by_lines m = refl

pub few_none : (d : List ℕ) (from to : ℕ) → from ≡ to → by_ending d from None ≡ comparison (part from to d)
unfolding by_ending
few_none d from to e = sym (is_by_lines (part from to d) ∙ ap (by_lines []) (no_lines d from to (omega arith)) ∙ by_none [])

pub few_one : (d : List ℕ) (from to : ℕ) (r : Lined) → LineAt d from to r → r.next ≡ to → by_ending d from None ≡ comparison (part from to d)
unfolding by_ending
few_one d from to r l e =
    sym (is_by_lines (part from to d)
    ∙ ap (by_lines []) (l.first ∙ ap (λ (z : List (List ℕ)). part from r.end d ∷ z) (no_lines d r.next to (omega arith)))
    ∙ by_one [] (part from r.end d))

pub walked_start : (d : List ℕ) (from to : ℕ) (r s : Lined) → LineAt d from to r → (r.next ≡ to → ⊥) → LineAt d r.next to s
    → Walked d from to from r.end r.next s.end s.next
walked_start d from to r s l n m = record {
  inside = ((omega arith, l.after), (l.before, m.after));
  ahead = (m.before, m.inside);
  rising = l.onward;
  below = m.onward;
  apart = subst Apart (sym (part_end d from)) apart_nil;
  closed = l.closed (omega (arith, l.inside));
  further = m.closed;
  says = is_by_lines (part from to d)
      ∙ ap (by_lines []) (l.first ∙ ap (λ (z : List (List ℕ)). part from r.end d ∷ z) m.first)
      ∙ ap (λ (h : List (List ℕ)). by_lines h (part from r.end d ∷ (part r.next s.end d ∷ lines (part s.next to d)))) (sym (no_lines d from from (omega arith)));
}

pub walked_turn : (d : List ℕ) (from to left stop right last next : ℕ) (z : Lined) → Walked d from to left stop right last next → next < to → LineAt d next to z
    → Walked d from to right last next z.end z.next
walked_turn d from to left stop right last next z w h l =
    let e = part_join d from left right w.inside.0.0 (omega (arith, w.rising)) in
    let a = apart_more (part from left d) (part left right d) (part left stop d) w.apart w.closed in
    let b : lines (part from right d) ≡ lines (part from left d) ++ part left stop d ∷ [] = ap lines (sym e) ∙ a.1 in
    record {
      inside = ((omega (arith, w.inside.0.0, w.rising), w.inside.1.1), (w.ahead.0, l.after));
      ahead = (l.before, l.inside);
      rising = w.below;
      below = l.onward;
      apart = subst Apart e a.0;
      closed = w.further h;
      further = l.closed;
      says = w.says
          ∙ ap (λ (y : List (List ℕ)). by_lines (lines (part from left d)) (part left stop d ∷ (part right last d ∷ y))) l.first
          ∙ by_turn (lines (part from left d)) (part left stop d) (part right last d) (part next z.end d) (lines (part z.next to d))
          ∙ ap (λ (y : List (List ℕ)). by_lines y (part right last d ∷ (part next z.end d ∷ lines (part z.next to d)))) (sym b);
    }

walked_end : (d : List ℕ) (from to left stop right last next : ℕ) → Walked d from to left stop right last next → to ≤ next
    → comparison (part from to d) ≡ by_lines (lines (part from left d)) (part left stop d ∷ (part right last d ∷ []))
walked_end d from to left stop right last next w h =
    w.says ∙ ap (λ (y : List (List ℕ)). by_lines (lines (part from left d)) (part left stop d ∷ (part right last d ∷ y))) (no_lines d next to h)

pub few_two : (d : List ℕ) (from to left stop right last next : ℕ) → Walked d from to left stop right last next → to ≤ next → left ≡ from
    → by_ending d from None ≡ comparison (part from to d)
unfolding by_ending
few_two d from to left stop right last next w h e =
    sym (walked_end d from to left stop right last next w h
    ∙ ap (λ (y : List (List ℕ)). by_lines y (part left stop d ∷ (part right last d ∷ []))) (no_lines d from left (omega arith))
    ∙ by_two (part left stop d) (part right last d))

some_lines : (d : List ℕ) (i e : ℕ) → i < e → e ≤ length d → 1 ≤ length (lines (part i e d))
some_lines d i e h g = subst (λ (s : List ℕ). 1 ≤ length (lines s)) (sym (part_step d i e h g)) (lines_some (get_or d i 0) (part (i + 1) e d))

pub last_two_are : (d : List ℕ) (from to left stop right last next : ℕ) → Walked d from to left stop right last next → to ≤ next → to ≤ length d → (left ≡ from → ⊥)
    → by_ending d from (Some (record { left = record { from = left; to = stop }; right = record { from = right; to = last } })) ≡ comparison (part from to d)
unfolding by_ending
last_two_are d from to left stop right last next w h g n =
    sym (walked_end d from to left stop right last next w h
    ∙ by_last (lines (part from left d)) (part left stop d) (part right last d)
    (some_lines d from left (omega (arith, w.inside.0.0)) (omega (arith, w.rising, w.inside.1.1, w.ahead.0, w.ahead.1))))
