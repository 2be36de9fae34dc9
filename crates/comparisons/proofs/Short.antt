-- How long a layout is at most: its pieces together are no longer than the message. Assumes nothing.
use Rattle.std.specs.Prelude.{Option, Some}
use Prim.Native.Nat.{ℕ, zero, suc, ◌+◌, ◌*◌, ◌-◌, ◌≤◌, ◌<◌, ◌^◌}
use mathlib.Core.Path.{◌≡◌, refl, sym, ap, ◌∙◌, subst}
use mathlib.Core.Bool.{Bool, true, false, ◌&&◌}
use mathlib.Core.List.{List, [], ◌∷◌, ◌++◌, append_assoc}
use native.Mathlib.Omega.{arith}
use lib.Dec.{eqb, leb}
use lib.ListN.{length, take, drop, length-append, length-drop, length-take}
use lib.Seq.{drop-drop}
use Rattle.buffer.specs.Bytes.{bytes, same}
use Rattle.buffer.specs.Table.{Maybe, none, some}
use Rattle.words.specs.declared.Color.{Color}
use Rattle.words.specs.declared.Styles.{Styles}
use Rattle.words.specs.declared.Color.TheVariants.{Red, Green}
use Rattle.colour.specs.declared.Settings.{Settings}
use Rattle.colour.specs.Formatting.{formatted}
use Rattle.colour.specs.Sequences.{starts_with}
use Rattle.colour.specs.Shown.{text, specifier, group, Members, more, text_of, joined}
use Rattle.colour.specs.Shown as shown
use Rattle.colour.proofs.Lengths.{length_formatted_coarse}
use Rattle.comparisons.specs.Comparisons.{before_line, lines, joined_by_newline, Comparison, ends_with, value_in, comparing, by_lines, comparison, characters, all_of, shared, backwards, plain_styles, bold_styles, run_format, one_run, runs, layout_of, layout}
use Rattle.comparisons.proofs.Lining.{by_none, by_one, by_two, by_last, by_turn}
use Rattle.comparisons.proofs.Splitting.{all_characters}

-- ---- lines joined are no longer than the text

joined_before : (b : ℕ) (x : List (List ℕ)) → length (joined_by_newline (before_line b x)) ≤ 1 + length (joined_by_newline x)
unfolding before_line joined_by_newline
joined_before b [] = omega arith
joined_before b (x ∷ []) = omega arith
joined_before b (x ∷ (y ∷ rest)) = omega arith

joined_newline : (x : List (List ℕ)) → length (joined_by_newline ([] ∷ x)) ≤ 1 + length (joined_by_newline x)
unfolding joined_by_newline
joined_newline [] = omega arith
joined_newline (x ∷ rest) = omega arith

no_lines : length (joined_by_newline []) ≤ 0
unfolding joined_by_newline
no_lines = omega arith

lines_short : (s : List ℕ) → length (joined_by_newline (lines s)) ≤ length s
unfolding lines
lines_short [] = no_lines
lines_short (b ∷ s) = by (eqb b 0x0A) (starts_with (bytes "\r\n") (b ∷ s)) (lines_short s)
  where
    by : (t u : Bool) → length (joined_by_newline (lines s)) ≤ length s
        → length (joined_by_newline (elim t [ true ↦ [] ∷ lines s | false ↦ elim u [ true ↦ lines s | false ↦ before_line b (lines s) ] ])) ≤ length (b ∷ s)
    by true u h = omega (arith, joined_newline (lines s))
    by false true h = omega arith
    by false false h = omega (arith, joined_before b (lines s))

-- ---- the pieces of a comparison

abbrev Fits : ℕ → Maybe Comparison → Type 0
Fits n none = Unit {0}
Fits n (some c) = length c.head + (length c.left + length c.right) ≤ n

abbrev Holds : ℕ → Maybe (List ℕ) → Type 0
Holds n none = Unit {0}
Holds n (some t) = length t ≤ n

value_short : (mark x : List ℕ) → Holds (length x) (value_in mark x)
unfolding value_in
value_short mark x = by (starts_with mark x && ends_with 0x60 x && leb (length mark + 1) (length x))
  where
    by : (b : Bool) → Holds (length x) (elim b [ true ↦ some (take (length x - (length mark + 1)) (drop (length mark) x)) | false ↦ none ])
    by true = omega (arith, length-take (length x - (length mark + 1)) (drop (length mark) x), length-drop (length mark) x)
    by false = tt

compared_short : (h : List (List ℕ)) (l r : Maybe (List ℕ)) (i j n : ℕ) → Holds i l → Holds j r → length (joined_by_newline h) + (i + j) ≤ n → Fits n (comparing h l r)
unfolding comparing
compared_short h none r i j n f g e = tt
compared_short h (some l) none i j n f g e = tt
compared_short h (some l) (some r) i j n f g e = omega arith

-- two lines more
joined_two : (h : List (List ℕ)) (x y : List ℕ) → length (joined_by_newline h) + (length x + length y) ≤ length (joined_by_newline (h ++ x ∷ y ∷ []))
unfolding joined_by_newline
joined_two [] x y = omega (arith, length-append x (0x0A ∷ y))
joined_two (a ∷ []) x y = omega (arith, length-append a (0x0A ∷ (x ++ 0x0A ∷ y)), length-append x (0x0A ∷ y))
joined_two (a ∷ (b ∷ h)) x y =
    omega (
      arith,
      joined_two (b ∷ h) x y,
      length-append a (0x0A ∷ joined_by_newline (b ∷ h)),
      length-append a (0x0A ∷ joined_by_newline (b ∷ (h ++ x ∷ y ∷ []))),
    )

by_lines_short : (h l : List (List ℕ)) (n : ℕ) → length (joined_by_newline (h ++ l)) ≤ n → Fits n (by_lines h l)
by_lines_short h [] n e = subst (Fits n) (sym (by_none h)) tt
by_lines_short h (x ∷ []) n e = subst (Fits n) (sym (by_one h x)) tt
by_lines_short [] (x ∷ (y ∷ [])) n e = subst (Fits n) (sym (by_two x y)) tt
by_lines_short (a ∷ h) (x ∷ (y ∷ [])) n e =
    subst (Fits n) (sym (by_last (a ∷ h) x y (omega arith)))
    (compared_short (a ∷ h) (value_in (bytes " left: `") x) (value_in (bytes "right: `") y) (length x) (length y) n (value_short (bytes " left: `") x) (value_short (bytes "right: `") y)
    (omega (arith, joined_two (a ∷ h) x y)))
by_lines_short h (x ∷ (y ∷ (z ∷ r))) n e =
    subst (Fits n) (sym (by_turn h x y z r))
    (by_lines_short (h ++ x ∷ []) (y ∷ (z ∷ r)) n (subst (λ (k : List (List ℕ)). length (joined_by_newline k) ≤ n) (sym (append_assoc h (x ∷ []) (y ∷ (z ∷ r)))) e))

pub comparison_short : (m : List ℕ) (c : Comparison) → comparison m ≡ some c → length c.head + (length c.left + length c.right) ≤ length m
unfolding comparison
comparison_short m c e = subst (Fits (length m)) e (by_lines_short [] (lines m) (length m) (lines_short m))

-- ---- three runs of a value are its bytes

all_append : (x y : List (List ℕ)) → length (all_of (x ++ y)) ≡ length (all_of x) + length (all_of y)
unfolding all_of
all_append [] y = omega arith
all_append (a ∷ x) y = omega (arith, all_append x y, length-append a (all_of x), length-append a (all_of (x ++ y)))

all_cut : (n : ℕ) (x : List (List ℕ)) → length (all_of x) ≡ length (all_of (take n x)) + length (all_of (drop n x))
unfolding all_of
all_cut zero x = omega arith
all_cut (suc n) [] = refl
all_cut (suc n) (a ∷ x) = omega (arith, all_cut n x, length-append a (all_of x), length-append a (all_of (take n x)))

shared_left : (x y : List (List ℕ)) → shared x y ≤ length x
unfolding shared
shared_left [] y = omega arith
shared_left (a ∷ x) [] = omega arith
shared_left (a ∷ x) (b ∷ y) = by (same a b) (shared_left x y)
  where
    by : (t : Bool) → shared x y ≤ length x → elim t [ true ↦ suc (shared x y) | false ↦ 0 ] ≤ suc (length x)
    by true h = omega arith
    by false h = omega arith

shared_right : (x y : List (List ℕ)) → shared x y ≤ length y
unfolding shared
shared_right [] y = omega arith
shared_right (a ∷ x) [] = omega arith
shared_right (a ∷ x) (b ∷ y) = by (same a b) (shared_right x y)
  where
    by : (t : Bool) → shared x y ≤ length y → elim t [ true ↦ suc (shared x y) | false ↦ 0 ] ≤ suc (length y)
    by true h = omega arith
    by false h = omega arith

length_backwards : (x : List (List ℕ)) → length (backwards x) ≡ length x
unfolding backwards
length_backwards [] = refl
length_backwards (a ∷ x) = omega (arith, length-append (backwards x) (a ∷ []), length_backwards x)

three_lengths : (x : List (List ℕ)) (n k : ℕ) → n + k ≤ length x
    → length (all_of (take n x)) + (length (all_of (take (length x - (n + k)) (drop n x))) + length (all_of (drop (length x - k) x))) ≡ length (all_of x)
three_lengths x n k h =
    let e : n + (length x - (n + k)) ≡ length x - k = omega arith in
    omega (
      arith,
      all_cut n x,
      all_cut (length x - (n + k)) (drop n x),
      ap (λ (y : List (List ℕ)). length (all_of y)) (drop-drop (length x - (n + k)) n x ∙ ap (λ (j : ℕ). drop j x) e),
    )

-- ---- the layout

module _ (s : Settings) where
  -- at most: sixteen times a text in its format, its width and 19
  abbrev most : Members → ℕ
  most shown.none = 0
  most (more (text t) m) = length t + most m
  most (more (specifier f t) m) = 16 * length t + (f.width + 19) + most m
  most (more (group f x) m) = length (text_of s (group f x)) + most m

  members_short : (m : Members) → length (joined s m) ≤ most m
  unfolding joined text_of
  members_short shown.none = omega arith
  members_short (more (text t) m) = omega (arith, length-append t (joined s m), members_short m)
  members_short (more (specifier f t) m) = omega (arith, length-append (formatted s f t) (joined s m), length_formatted_coarse s f t, members_short m)
  members_short (more (group f x) m) = omega (arith, length-append (formatted s f (joined s x)) (joined s m), members_short m)

  run_most : (y : Styles) (i : Option Color) (t : List ℕ) (m : Members) → most (one_run y i t m) ≤ 16 * length t + 19 + most m
  unfolding one_run
  run_most y i [] m = omega arith
  run_most y i (b ∷ t) m = omega arith

  runs_most : (c : Color) (x : List (List ℕ)) (n k : ℕ) (m : Members) → n + k ≤ length x → most (runs c x n k m) ≤ 16 * length (all_of x) + 57 + most m
  unfolding runs
  runs_most c x n k m h =
      let last = one_run plain_styles (Some c) (all_of (drop (length x - k) x)) m in
      let middle = one_run bold_styles (Some c) (all_of (take (length x - (n + k)) (drop n x))) last in
      let t = three_lengths x n k h in
      let l = run_most plain_styles (Some c) (all_of (drop (length x - k) x)) m in
      let b = run_most bold_styles (Some c) (all_of (take (length x - (n + k)) (drop n x))) last in
      let f = run_most plain_styles (Some c) (all_of (take n x)) middle in
      omega (arith, t, f, b, l)

  pub layout_short : (c : Comparison) → length (joined s (layout c)) ≤ 16 * (length c.head + (length c.left + length c.right)) + 1000
  unfolding layout layout_of
  layout_short c =
      let x = characters c.left in
      let y = characters c.right in
      let n = shared x y in
      let k = shared (backwards (drop n x)) (backwards (drop n y)) in
      let left : n + k ≤ length x = within n (shared (backwards (drop n x)) (backwards (drop n y))) x (shared_left x y) (shared_left (backwards (drop n x)) (backwards (drop n y))) in
      let right : n + k ≤ length y = within n (shared (backwards (drop n x)) (backwards (drop n y))) y (shared_right x y) (shared_right (backwards (drop n x)) (backwards (drop n y))) in
      let rest = more (text (bytes "\n")) (more (specifier (run_format plain_styles (Some Green)) (bytes ">")) (runs Green y n k shown.none)) in
      omega (
        arith,
        members_short (layout c),
        runs_most Green y n k shown.none right,
        runs_most Red x n k rest left,
        ap length (all_characters c.left),
        ap length (all_characters c.right),
      )
    where
      within : (n k : ℕ) (x : List (List ℕ)) → n ≤ length x → k ≤ length (backwards (drop n x)) → n + k ≤ length x
      within n k x h g = omega (arith, length_backwards (drop n x), length-drop n x)

  -- so a message that isn't long has a layout that isn't
  pub laid_small : (m : List ℕ) (c : Comparison) → comparison m ≡ some c → length m ≤ 4096 → length (joined s (layout c)) < 2 ^ 18
  laid_small m c e h = omega (arith, layout_short c, comparison_short m c e)
