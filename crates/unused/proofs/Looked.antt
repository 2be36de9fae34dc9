-- The second look at items, contents, groups and braces, one law for each case. Assumes nothing.
use Prim.Native.Nat.{ℕ, zero, suc, ◌+◌, ◌-◌, ◌≤◌, ◌<◌}
use mathlib.Core.Path.{◌≡◌, refl, sym, ap, ◌∙◌}
use mathlib.Core.Bool.{Bool, true, false, not}
use mathlib.Core.List.{List}
use native.Mathlib.Omega.{arith}
use lib.ListN.{length}
use borrow.Author.Tests.{lt-ltb, le-ltb}
use Rattle.std.specs.Prelude.{Some, None, Ok}
use Rattle.buffer.specs.Bytes.{byte}
use Rattle.buffer.specs.Table.{Maybe, none, some}
use Rattle.runs.specs.Runs.{stands}
use Rattle.words.specs.Trying.{Tried, fit, misfit, ◌or_else◌, ◌then◌, listed}
use Rattle.words.specs.Words.{parameter_at}
use Rattle.runs.proofs.Running.{stands_end}
use Rattle.words.proofs.Attempts.{or_else_fit, or_else_misfit, then_fit, then_misfit}
use Rattle.braces.specs.Braces.{Closing, closing}
use Rattle.building.specs.Reading.{text_at, percent_at, separator}
use Rattle.lists.proofs.Grouped.{text_past}
use Rattle.unused.specs.declared.Look.{Look}
use Rattle.unused.specs.Unused.{sooner, first_of, dropped_from}
use Rattle.endings.specs.Ending.{Ends, end_of, or_end, word_end, plain_end}
use Rattle.unused.specs.Looking.{reaches, tell_look, Sight, Looker, worded, asking_from, grouping, look_item, left_by_content, no_sight, look_content, look_piece, look_group, look_brace_to, look_brace, look_inside, look_top, left_up_to, tops_looked, left_over}
use Rattle.endings.proofs.Ended.{percent_nowhere}
use Rattle.unused.proofs.Places.{sooner_none}

-- ---- items

module _ (even : Bool) (t : List ℕ) (group : Looker) (e i : ℕ) (c : Sight) where
  abbrev first : Tried Sight
  first = reaches (word_end even t i e) (worded even c)

  abbrev third : Tried Sight
  third = group i e then λ u j. fit (grouping c u) j

  abbrev second : Tried Sight
  second = reaches (end_of (parameter_at t i e)) (asking_from c i)

  pub item_word : (j : ℕ) → Some j ≡ word_end even t i e → (r : Look) → tell_look r ≡ worded even c → r.end ≡ j → fit (tell_look r) r.end ≡ look_item even t group e i c
  unfolding look_item
  item_word j w r p s =
      ap (λ (z : Sight). fit z r.end) p ∙ ap (fit (worded even c)) s
      ∙ sym (or_else_fit first (λ _. second or_else λ _. third) (worded even c) j (ap (λ (z : Ends). reaches z (worded even c)) (sym w)))

  module _ (n : None ≡ word_end even t i e) where
    no_word : look_item even t group e i c ≡ (second or_else λ _. third)
    unfolding look_item
    no_word = or_else_misfit first (λ _. second or_else λ _. third) (ap (λ (z : Ends). reaches z (worded even c)) (sym n))

    pub item_asked : (j : ℕ) → Some j ≡ end_of (parameter_at t i e) → (l : Maybe ℕ) → l ≡ sooner (some i) c.asked
        → fit (record { unused = c.unused; asked = l; takes = c.takes }) j ≡ look_item even t group e i c
    item_asked j w l p =
        ap (λ (z : Maybe ℕ). fit (record { unused = c.unused; asked = z; takes = c.takes }) j) p
        ∙ sym (no_word ∙ or_else_fit second (λ _. third) (asking_from c i) j (ap (λ (z : Ends). reaches z (asking_from c i)) (sym w)))

    pub item_group : None ≡ end_of (parameter_at t i e) → (u : Maybe ℕ) (j : ℕ) → fit u j ≡ group i e → (l : Maybe ℕ) → l ≡ sooner c.unused u
        → fit (record { unused = l; asked = c.asked; takes = true }) j ≡ look_item even t group e i c
    item_group w u j g l p =
        ap (λ (z : Maybe ℕ). fit (record { unused = z; asked = c.asked; takes = true }) j) p
        ∙ sym (no_word ∙ or_else_misfit second (λ _. third) (ap (λ (z : Ends). reaches z (asking_from c i)) (sym w))
        ∙ then_fit (group i e) (λ (u : Maybe ℕ) (j : ℕ). fit (grouping c u) j) u j (sym g))

-- ---- contents

pub too_deep : (left : ℕ) (even : Bool) (t : List ℕ) (i e : ℕ) → left ≡ 0 → fit none i ≡ look_inside left even t i e
unfolding look_inside
too_deep left even t i e q = sym (ap (λ (d : ℕ). look_inside d even t i e) q)

deeper : (left : ℕ) (even : Bool) (t : List ℕ) (i e : ℕ) → (left ≡ 0 → ⊥) → look_inside left even t i e ≡ look_content even t (look_group t (look_brace t (look_inside (left - 1) (not even) t))) i e
unfolding look_inside
deeper zero even t i e h = absurd (h refl)
deeper (suc d) even t i e h =
    ap (λ (m : ℕ). look_content even t (look_group t (look_brace t (look_inside m (not even) t))) i e) (let q : d ≡ suc d - 1 = omega arith in q)

pub content_ends : (left : ℕ) (even : Bool) (t : List ℕ) (i e : ℕ) → (left ≡ 0 → ⊥) → (c : Sight) (j : ℕ) (r : Maybe ℕ) → r ≡ left_by_content c j e
    → fit c j ≡ listed (separator even) t e (look_item even t (look_group t (look_brace t (look_inside (left - 1) (not even) t))) e) i no_sight
    → fit r j ≡ look_inside left even t i e
unfolding look_content ◌then◌
content_ends left even t i e h c j r p q =
    ap (λ (z : Maybe ℕ). fit z j) p
    ∙ ap (λ (z : Tried Sight). z then λ c j. fit (left_by_content c j e) j) q
    ∙ sym (deeper left even t i e h)

-- ---- braces

module _ (t : List ℕ) (inside : Looker) (i e : ℕ) where
  pub brace_none : stands (byte "{") t i e ≡ false → misfit ≡ look_brace t inside i e
  unfolding look_brace
  brace_none b = rw (b, look_brace)

  pub brace_is : stands (byte "{") t i e ≡ true → (g : Closing) → g ≡ closing t (e - (i + 1)) (i + 1) 0 false → look_brace_to inside i g ≡ look_brace t inside i e
  unfolding look_brace
  brace_is b g q = rw (b, look_brace) (ap (look_brace_to inside i) q)

  pub brace_fits : stands (byte "{") t i e ≡ true → (c : ℕ) → Ok (Some c) ≡ closing t (e - (i + 1)) (i + 1) 0 false → (u : Maybe ℕ) (j : ℕ) → fit u j ≡ inside (i + 1) c
      → fit u (c + 1) ≡ look_brace t inside i e
  brace_fits b c q u j w = sym (then_fit (inside (i + 1) c) (λ (u : Maybe ℕ) (j : ℕ). fit u (c + 1)) u j (sym w)) ∙ brace_is b (Ok (Some c)) q

-- ---- a brace, else something plain

abbrev pub either : Tried (Maybe ℕ) → Ends → Maybe ℕ → Tried (Maybe ℕ)
either x y u = (x then λ v j. fit (sooner u v) j) or_else λ _. reaches y u

module _ (x : Tried (Maybe ℕ)) (y : Ends) (u : Maybe ℕ) where
  pub either_brace : (v : Maybe ℕ) (j : ℕ) → fit v j ≡ x → (l : Maybe ℕ) → l ≡ sooner u v → fit l j ≡ either x y u
  either_brace v j w l p =
      ap (λ (z : Maybe ℕ). fit z j) p
      ∙ sym (or_else_fit (x then λ v j. fit (sooner u v) j) (λ _. reaches y u) (sooner u v) j (then_fit x (λ (v : Maybe ℕ) (j : ℕ). fit (sooner u v) j) v j (sym w)))

  pub either_plain : misfit ≡ x → (z : Ends) → z ≡ y → reaches z u ≡ either x y u
  either_plain w z q =
      ap (λ (a : Ends). reaches a u) q
      ∙ sym (or_else_misfit (x then λ v j. fit (sooner u v) j) (λ _. reaches y u) (then_misfit x (λ (v : Maybe ℕ) (j : ℕ). fit (sooner u v) j) (sym w)))

-- nothing fits at the end
module _ (t : List ℕ) (inside : Looker) (i e : ℕ) (h : e ≤ i) where
  brace_past : misfit ≡ look_brace t inside i e
  brace_past = brace_none t inside i e (stands_end (byte "{") t i e h)

  text_none : None ≡ end_of (text_at t i e 0)
  text_none = sym (ap end_of (text_past t i e 0 h))

  plain_none : None ≡ plain_end t i e
  plain_none = percent_nowhere t i e (stands_end (byte "%") t i e h) ∙ ap (λ (z : Ends). or_end z (end_of (percent_at t i e))) text_none

  pub piece_past : (u : Maybe ℕ) → look_piece t (look_brace t inside) e i u ≡ misfit
  unfolding look_piece
  piece_past u = sym (either_plain (look_brace t inside i e) (plain_end t i e) u brace_past None plain_none)

-- ---- the top level

pub top_past : (t : List ℕ) (i e : ℕ) → e ≤ i → (u : Maybe ℕ) → look_top t e i u ≡ misfit
unfolding look_top
top_past t i e h u =
    let inside = look_inside 8 false t in
    sym (either_plain (look_brace t inside i e) (end_of (text_at t i e 0)) u (brace_past t inside i e h) None (text_none t inside i e h))

module _ (t : List ℕ) (u : Maybe ℕ) (i : ℕ) (q : fit u i ≡ tops_looked t) where
  rest_is : sooner u (first_of (dropped_from i (length t))) ≡ left_over t
  unfolding left_over left_up_to
  rest_is = ap (left_up_to (length t)) q

  pub rest_dropped : i < length t → sooner u (some i) ≡ left_over t
  rest_dropped h = ap (sooner u) (let d : some i ≡ first_of (dropped_from i (length t)) = rw (lt-ltb i (length t) h, dropped_from) in d) ∙ rest_is

  pub rest_none : length t ≤ i → u ≡ left_over t
  rest_none h = sym (sooner_none u) ∙ ap (sooner u) (let d : none ≡ first_of (dropped_from i (length t)) = rw (le-ltb i (length t) h, dropped_from) in d) ∙ rest_is
