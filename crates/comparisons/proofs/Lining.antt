-- Laws of `lines`. Assumes nothing.
use mathlib.Core.Path.{◌≡◌, refl, ap, sym, ◌∙◌}
use mathlib.Core.Bool.{Bool, true, false}
use mathlib.Core.List.{List, [], ◌∷◌, ◌++◌, append_assoc, append-nil}
use Prim.Native.Nat.{ℕ, ◌+◌, ◌<◌, ◌≤◌}
use native.Mathlib.Omega.{arith}
use lib.Dec.{eqb}
use lib.ListN.{length, get_or}
use borrow.Author.Tests.{ne_eqb, eq-eqb}
use Rattle.buffer.specs.Bytes.{bytes, part}
use Rattle.characters.specs.Characters.{one_if}
use Rattle.buffer.specs.Table.{none}
use Rattle.buffer.proofs.Parts.{part_step, part_end, part_snoc}
use Rattle.colour.specs.Sequences.{starts_with}
use Rattle.comparisons.specs.Comparisons.{before_line, lines, value_in, comparing, by_lines}
use Rattle.comparisons.specs.Places.{trimmed, Closed, LineAt}
use Rattle.comparisons.specs.declared.Lined.{Lined}
use Rattle.comparisons.proofs.Parts.{part_join}

-- no newline among the bytes
abbrev pub Single : List ℕ → Type 0
Single [] = Unit {0}
Single (b ∷ s) = (b ≡ 0x0A → ⊥) × Single s

-- ---- `trimmed`

pub trimmed_return : (s : List ℕ) (b : ℕ) → b ≡ 0x0D → trimmed (s ++ b ∷ []) ≡ s
unfolding trimmed
trimmed_return [] b e = rw (eq-eqb b 0x0D e, trimmed)
trimmed_return (a ∷ []) b e = ap (λ (t : List ℕ). a ∷ t) (trimmed_return [] b e)
trimmed_return (a ∷ (c ∷ s)) b e = ap (λ (t : List ℕ). a ∷ t) (trimmed_return (c ∷ s) b e)

pub trimmed_other : (s : List ℕ) (b : ℕ) → (b ≡ 0x0D → ⊥) → trimmed (s ++ b ∷ []) ≡ s ++ b ∷ []
unfolding trimmed
trimmed_other [] b e = rw (ne_eqb b 0x0D e, trimmed)
trimmed_other (a ∷ []) b e = ap (λ (t : List ℕ). a ∷ t) (trimmed_other [] b e)
trimmed_other (a ∷ (c ∷ s)) b e = ap (λ (t : List ℕ). a ∷ t) (trimmed_other (c ∷ s) b e)

pub trimmed_nil : trimmed [] ≡ []
unfolding trimmed
trimmed_nil = refl

-- ---- one line

-- a byte that is no newline, and no `\r` before one
pub next_byte : (b : ℕ) (s : List ℕ) → (b ≡ 0x0A → ⊥) → starts_with (bytes "\r\n") (b ∷ s) ≡ false → lines (b ∷ s) ≡ before_line b (lines s)
unfolding lines
next_byte b s n e = rw (ne_eqb b 0x0A n, e, lines)

pub no_pair : (b c : ℕ) (s : List ℕ) → (c ≡ 0x0A → ⊥) → starts_with (bytes "\r\n") (b ∷ c ∷ s) ≡ false
unfolding starts_with
no_pair b c s n = by (eqb b 0x0D)
  where
    by : (t : Bool) → elim t [ true ↦ elim (eqb c 0x0A) [ true ↦ true | false ↦ false ] | false ↦ false ] ≡ false
    by true = rw (ne_eqb c 0x0A n)
    by false = refl

pub no_pair_alone : (b : ℕ) → starts_with (bytes "\r\n") (b ∷ []) ≡ false
unfolding starts_with
no_pair_alone b = by (eqb b 0x0D)
  where
    by : (t : Bool) → elim t [ true ↦ false | false ↦ false ] ≡ false
    by true = refl
    by false = refl

pub before_first : (b : ℕ) (x : List ℕ) (r : List (List ℕ)) → before_line b (x ∷ r) ≡ (b ∷ x) ∷ r
unfolding before_line
before_first b x r = refl

pub before_none : (b : ℕ) → before_line b [] ≡ (b ∷ []) ∷ []
unfolding before_line
before_none b = refl

pub at_newline : (y : List ℕ) → lines (0x0A ∷ y) ≡ [] ∷ lines y
unfolding lines
at_newline y = refl

pub lines_nil : lines [] ≡ []
unfolding lines
lines_nil = refl

pub last_byte : (b : ℕ) (y : List ℕ) → (b ≡ 0x0A → ⊥) → lines (b ∷ 0x0A ∷ y) ≡ trimmed (b ∷ []) ∷ lines y
unfolding lines starts_with trimmed
last_byte b y n =
    ap (λ (t : Bool). elim t [ true ↦ [] ∷ ([] ∷ lines y) | false ↦ elim (starts_with (bytes "\r\n") (b ∷ 0x0A ∷ y)) [ true ↦ [] ∷ lines y | false ↦ before_line b ([] ∷ lines y) ] ]) (ne_eqb b 0x0A n)
    ∙ by (eqb b 0x0D) (starts_with (bytes "\r\n") (b ∷ 0x0A ∷ y)) refl
  where
    by : (t u : Bool) → u ≡ elim t [ true ↦ true | false ↦ false ] → elim u [ true ↦ [] ∷ lines y | false ↦ before_line b ([] ∷ lines y) ] ≡ elim t [ true ↦ [] | false ↦ b ∷ [] ] ∷ lines y
    by true true e = refl
    by true false e = cc
    by false true e = cc
    by false false e = before_first b [] (lines y)

-- a line and its newline
pub lines_ended : (s y : List ℕ) → Single s → lines (s ++ 0x0A ∷ y) ≡ trimmed s ∷ lines y
unfolding trimmed
lines_ended [] y f = at_newline y
lines_ended (b ∷ []) y f = last_byte b y f.0
lines_ended (b ∷ (c ∷ s)) y f =
    next_byte b (c ∷ s ++ 0x0A ∷ y) f.0 (no_pair b c (s ++ 0x0A ∷ y) f.1.0)
    ∙ ap (before_line b) (lines_ended (c ∷ s) y f.1)
    ∙ before_first b (trimmed (c ∷ s)) (lines y)

-- a line without its newline
pub lines_open : (b : ℕ) (s : List ℕ) → Single (b ∷ s) → lines (b ∷ s) ≡ (b ∷ s) ∷ []
lines_open b [] f = next_byte b [] f.0 (no_pair_alone b) ∙ ap (before_line b) lines_nil ∙ before_none b
lines_open b (c ∷ s) f =
    next_byte b (c ∷ s) f.0 (no_pair b c s f.1.0) ∙ ap (before_line b) (lines_open c s f.1) ∙ before_first b (c ∷ s) []

-- ---- the line at a place

pub line_open : (d : List ℕ) (i e : ℕ) → i < e → e ≤ length d → Single (part i e d) → LineAt d i e (record { end = e; next = e })
line_open d i e h g f =
    let s = part_step d i e h g in
    let o : lines (part i e d) ≡ part i e d ∷ [] = whole (part i e d) (get_or d i 0) (part (i + 1) e d) s f in
    record {
      after = omega arith;
      before = omega arith;
      onward = h;
      inside = omega arith;
      first = o ∙ ap (λ (r : List (List ℕ)). part i e d ∷ r) (sym (ap lines (part_end d e) ∙ lines_nil));
      closed = λ l. elim (none_less l) [ ];
    }
  where
    whole : (x : List ℕ) (b : ℕ) (t : List ℕ) → x ≡ b ∷ t → Single x → lines x ≡ x ∷ []
    whole [] b t q f = cc
    whole (a ∷ x) b t q f = lines_open a x f

    none_less : e < e → ⊥
    none_less l = omega arith

pub line_ended : (d : List ℕ) (i k e : ℕ) (r : Lined) → i ≤ k → k < e → e ≤ length d → Single (part i k d) → get_or d k 0 ≡ 0x0A
    → r.next ≡ k + 1 → (i ≤ r.end) × (r.end ≤ k) → part i r.end d ≡ trimmed (part i k d) → LineAt d i e r
line_ended d i k e r h g m f q n w p =
    let c : Closed (part i (k + 1) d) (part i r.end d) = (λ y.
    ap (λ (l : List ℕ). lines (l ++ y)) (part_snoc d i k h (omega arith) ∙ ap (λ (b : ℕ). part i k d ++ b ∷ []) q)
    ∙ ap lines (append_assoc (part i k d) (0x0A ∷ []) y)
    ∙ lines_ended (part i k d) y f
    ∙ ap (λ (l : List ℕ). l ∷ lines y) (sym p)) in
    record {
      after = w.0;
      before = omega (arith, w.1);
      onward = omega arith;
      inside = omega arith;
      first = ap lines (sym (part_join d i r.next e (omega arith) (omega arith)))
          ∙ ap (λ (j : ℕ). lines (part i j d ++ part r.next e d)) n
          ∙ c (part r.next e d);
      closed = λ l y. ap (λ (j : ℕ). lines (part i j d ++ y)) n ∙ c y;
    }

-- ---- all lines

-- texts whose lines are theirs, whatever follows
abbrev pub Apart : List ℕ → Type 0
Apart x = (y : List ℕ) → lines (x ++ y) ≡ lines x ++ lines y

pub apart_nil : Apart []
unfolding lines
apart_nil y = refl

-- a closed line more
pub apart_more : (x z l : List ℕ) → Apart x → Closed z l → Apart (x ++ z) × (lines (x ++ z) ≡ lines x ++ l ∷ [])
apart_more x z l a c =
    let one : lines z ≡ l ∷ [] = ap lines (sym (append-nil z)) ∙ c [] ∙ ap (λ (r : List (List ℕ)). l ∷ r) lines_nil in
    let two : lines (x ++ z) ≡ lines x ++ l ∷ [] = a z ∙ ap (λ (r : List (List ℕ)). lines x ++ r) one in (
      λ y.
          ap lines (append_assoc x z y)
          ∙ a (z ++ y)
          ∙ ap (λ (r : List (List ℕ)). lines x ++ r) (c y)
          ∙ sym (append_assoc (lines x) (l ∷ []) (lines y))
          ∙ ap (λ (r : List (List ℕ)). r ++ lines y) (sym two),
      two,
    )

-- a text has a line
before_some : (b : ℕ) (x : List (List ℕ)) → 1 ≤ length (before_line b x)
unfolding before_line
before_some b [] = omega arith
before_some b (a ∷ x) = omega arith

some_line : (b : ℕ) (s : List ℕ) (t u : Bool) → 1 ≤ length (lines s) → 1 ≤ length {A = List ℕ} (elim t [ true ↦ [] ∷ lines s | false ↦ elim u [ true ↦ lines s | false ↦ before_line b (lines s) ] ])
some_line b s true u h = omega arith
some_line b s false true h = h
some_line b s false false h = before_some b (lines s)

pub lines_some : (b : ℕ) (s : List ℕ) → 1 ≤ length (lines (b ∷ s))
unfolding lines
lines_some b [] = by (eqb b 0x0A) (starts_with (bytes "\r\n") (b ∷ [])) (no_pair_alone b)
  where
    by : (t u : Bool) → u ≡ false → 1 ≤ length {A = List ℕ} (elim t [ true ↦ [] ∷ [] | false ↦ elim u [ true ↦ [] | false ↦ before_line b [] ] ])
    by true u e = omega arith
    by false true e = let z : one_if true ≡ one_if false = ap one_if e in omega (arith, z)
    by false false e = before_some b []
lines_some b (c ∷ s) = some_line b (c ∷ s) (eqb b 0x0A) (starts_with (bytes "\r\n") (b ∷ c ∷ s)) (lines_some c s)

-- ---- `by_lines`

pub by_turn : (h : List (List ℕ)) (x y z : List ℕ) (r : List (List ℕ)) → by_lines h (x ∷ (y ∷ (z ∷ r))) ≡ by_lines (h ++ x ∷ []) (y ∷ (z ∷ r))
unfolding by_lines
by_turn [] x y z r = refl
by_turn (a ∷ h) x y z r = refl

pub by_two : (x y : List ℕ) → by_lines [] (x ∷ (y ∷ [])) ≡ none
unfolding by_lines
by_two x y = refl

pub by_one : (h : List (List ℕ)) (x : List ℕ) → by_lines h (x ∷ []) ≡ none
unfolding by_lines
by_one [] x = refl
by_one (a ∷ h) x = refl

pub by_none : (h : List (List ℕ)) → by_lines h [] ≡ none
unfolding by_lines
by_none [] = refl
by_none (a ∷ h) = refl

pub by_last : (h : List (List ℕ)) (x y : List ℕ) → 1 ≤ length h → by_lines h (x ∷ (y ∷ [])) ≡ comparing h (value_in (bytes " left: `") x) (value_in (bytes "right: `") y)
unfolding by_lines
by_last [] x y n = elim (nothing n) [ ]
  where
    nothing : 1 ≤ 0 → ⊥
    nothing h = omega arith
by_last (a ∷ h) x y n = refl
