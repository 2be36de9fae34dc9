-- A message whose last line doesn't end with a backquote is no comparison. Assumes nothing.
use mathlib.Core.Path.{◌≡◌, refl, ap, sym, ◌∙◌, subst}
use mathlib.Core.Bool.{Bool, true, false}
use mathlib.Core.List.{List, [], ◌∷◌, ◌++◌}
use Prim.Native.Nat.{ℕ, ◌+◌, ◌<◌, ◌≤◌}
use native.Mathlib.Omega.{arith}
use lib.Dec.{eqb}
use lib.ListN.{length, get_or}
use borrow.Author.Tests.{ne_eqb, eqb-true, eqb-false}
use Rattle.buffer.specs.Bytes.{bytes, part}
use Rattle.buffer.proofs.Parts.{part_snoc}
use Rattle.buffer.specs.Table.{none}
use Rattle.colour.specs.Sequences.{starts_with}
use Rattle.comparisons.specs.Comparisons.{before_line, lines, ends_with, value_in, comparing, by_lines, comparison}
use Rattle.comparisons.specs.Places.{trimmed, unended}
use Rattle.comparisons.proofs.Lining.{next_byte, no_pair, before_first, at_newline, last_byte, lines_nil, lines_open, by_none, by_one, by_two, by_last, by_turn}
use Rattle.comparisons.proofs.Marking.{no_value_ended, none_compared}

-- ---- `unended`

pub unended_line : (x : List ℕ) → unended (x ++ 0x0A ∷ []) ≡ trimmed x
unfolding unended trimmed
unended_line [] = refl
unended_line (b ∷ []) = refl
unended_line (b ∷ (c ∷ [])) = refl
unended_line (b ∷ (c ∷ (e ∷ x))) = ap (λ (t : List ℕ). b ∷ t) (unended_line (c ∷ (e ∷ x)))

pub unended_other : (x : List ℕ) (b : ℕ) → (b ≡ 0x0A → ⊥) → unended (x ++ b ∷ []) ≡ x ++ b ∷ []
unfolding unended
unended_other [] b n = rw (ne_eqb b 0x0A n, unended)
unended_other (a ∷ []) b n = rw (ne_eqb b 0x0A n, unended)
unended_other (a ∷ (c ∷ [])) b n = ap (λ (t : List ℕ). a ∷ t) (unended_other (c ∷ []) b n)
unended_other (a ∷ (c ∷ (e ∷ x))) b n = ap (λ (t : List ℕ). a ∷ t) (unended_other (c ∷ (e ∷ x)) b n)

-- at places
pub unended_at : (d : List ℕ) (i e k : ℕ) → e ≡ k + 1 → i ≤ k → k < length d → get_or d k 0 ≡ 0x0A → unended (part i e d) ≡ trimmed (part i k d)
unended_at d i e k q h g n =
    ap (λ (j : ℕ). unended (part i j d)) q ∙ ap unended (part_snoc d i k h g ∙ ap (λ (b : ℕ). part i k d ++ b ∷ []) n) ∙ unended_line (part i k d)

pub unended_whole : (d : List ℕ) (i e k : ℕ) → e ≡ k + 1 → i ≤ k → k < length d → (get_or d k 0 ≡ 0x0A → ⊥) → unended (part i e d) ≡ part i e d
unended_whole d i e k q h g n =
    let s : part i e d ≡ part i k d ++ get_or d k 0 ∷ [] = ap (λ (j : ℕ). part i j d) q ∙ part_snoc d i k h g in
    ap unended s ∙ unended_other (part i k d) (get_or d k 0) n ∙ sym s

pub unended_nil : unended [] ≡ []
unfolding unended
unended_nil = refl

-- ---- lines of which the last doesn't end with a backquote

abbrev Last : List (List ℕ) → Type 0
Last [] = Unit {0}
Last (x ∷ []) = ends_with 0x60 x ≡ false
Last (x ∷ (y ∷ r)) = Last (y ∷ r)

-- nor does it with a byte more at the front of the first
abbrev Open : List (List ℕ) → Type 0
Open [] = ⊥
Open ([] ∷ []) = ⊥
Open ((b ∷ x) ∷ []) = ends_with 0x60 (b ∷ x) ≡ false
Open (x ∷ (y ∷ r)) = Last (y ∷ r)

open_last : (l : List (List ℕ)) → Open l → Last l
open_last [] o = tt
open_last ([] ∷ []) o = absurd o
open_last ((b ∷ x) ∷ []) o = o
open_last (x ∷ (y ∷ r)) o = o

open_newline : (l : List (List ℕ)) → Open l → Open ([] ∷ l)
open_newline [] o = absurd o
open_newline (x ∷ r) o = open_last (x ∷ r) o

open_before : (b : ℕ) (l : List (List ℕ)) → Open l → Open (before_line b l)
unfolding before_line ends_with
open_before b [] o = absurd o
open_before b ([] ∷ []) o = absurd o
open_before b ((c ∷ x) ∷ []) o = o
open_before b (x ∷ (y ∷ r)) o = o

open_more : (b : ℕ) (s : List ℕ) → Open (lines s) → Open (lines (b ∷ s))
unfolding lines
open_more b s o = by (eqb b 0x0A) (starts_with (bytes "\r\n") (b ∷ s))
  where
    by : (t u : Bool) → Open (elim t [ true ↦ [] ∷ lines s | false ↦ elim u [ true ↦ lines s | false ↦ before_line b (lines s) ] ])
    by true u = open_newline (lines s) o
    by false true = o
    by false false = open_before b (lines s) o

last_none : (h l : List (List ℕ)) → Last l → by_lines h l ≡ none
last_none h [] o = by_none h
last_none h (x ∷ []) o = by_one h x
last_none [] (x ∷ (y ∷ [])) o = by_two x y
last_none (a ∷ h) (x ∷ (y ∷ [])) o =
    by_last (a ∷ h) x y (omega arith)
    ∙ ap (comparing (a ∷ h) (value_in (bytes " left: `") x)) (no_value_ended (bytes "right: `") y o)
    ∙ none_compared (a ∷ h) (value_in (bytes " left: `") x)
last_none h (x ∷ (y ∷ (z ∷ r))) o = by_turn h x y z r ∙ last_none (h ++ x ∷ []) (y ∷ (z ∷ r)) o

-- ---- one byte, two and three

-- a last byte without a newline
open_end : (e : ℕ) → (e ≡ 0x0A → ⊥) → eqb e 0x60 ≡ false → Open (lines (e ∷ []))
unfolding ends_with
open_end e n q = subst Open (sym (lines_open e [] (n, tt))) q

-- and with one
kept : (c : ℕ) → (c ≡ 0x0D → ⊥) → trimmed (c ∷ []) ≡ c ∷ []
unfolding trimmed
kept c n = rw (ne_eqb c 0x0D n, trimmed)

open_ended : (c : ℕ) → (c ≡ 0x0D → ⊥) → eqb c 0x60 ≡ false → Open (lines (c ∷ 0x0A ∷ []))
unfolding ends_with
open_ended c n q = by (eqb c 0x0A) refl
  where
    by : (t : Bool) → eqb c 0x0A ≡ t → Open (lines (c ∷ 0x0A ∷ []))
    by true e =
        subst (λ (k : ℕ). Open (lines (k ∷ 0x0A ∷ []))) (sym (eqb-true c 0x0A e))
        (subst Open (sym (at_newline (0x0A ∷ []) ∙ ap (λ (r : List (List ℕ)). [] ∷ r) (at_newline [] ∙ ap (λ (r : List (List ℕ)). [] ∷ r) lines_nil))) refl)
    by false e =
        subst Open
        (sym (last_byte c [] (eqb-false c 0x0A e) ∙ ap (λ (x : List ℕ). x ∷ lines []) (kept c n) ∙ ap (λ (r : List (List ℕ)). (c ∷ []) ∷ r) lines_nil)) q

-- and with `\r` before it
returned : lines (0x0D ∷ 0x0A ∷ []) ≡ [] ∷ []
unfolding trimmed
returned = last_byte 0x0D [] (λ e. omega arith) ∙ ap (λ (r : List (List ℕ)). [] ∷ r) lines_nil

open_returned : (b : ℕ) → eqb b 0x60 ≡ false → Open (lines (b ∷ 0x0D ∷ 0x0A ∷ []))
unfolding ends_with
open_returned b q = by (eqb b 0x0A) refl
  where
    by : (t : Bool) → eqb b 0x0A ≡ t → Open (lines (b ∷ 0x0D ∷ 0x0A ∷ []))
    by true e =
        subst (λ (k : ℕ). Open (lines (k ∷ 0x0D ∷ 0x0A ∷ []))) (sym (eqb-true b 0x0A e))
        (subst Open (sym (at_newline (0x0D ∷ 0x0A ∷ []) ∙ ap (λ (r : List (List ℕ)). [] ∷ r) returned)) refl)
    by false e =
        subst Open
        (sym (next_byte b (0x0D ∷ 0x0A ∷ []) (eqb-false b 0x0A e) (no_pair b 0x0D (0x0A ∷ []) (λ z. omega arith)) ∙ ap (before_line b) returned ∙ before_first b [] [])) q

open_three : (b c e : ℕ) → ends_with 0x60 (unended (b ∷ (c ∷ (e ∷ [])))) ≡ false → Open (lines (b ∷ (c ∷ (e ∷ []))))
unfolding unended trimmed ends_with
open_three b c e = by (eqb e 0x0A) (eqb c 0x0D) refl refl
  where
    by : (t u : Bool) → eqb e 0x0A ≡ t → eqb c 0x0D ≡ u
        → ends_with 0x60 (b ∷ elim t [ true ↦ elim u [ true ↦ [] | false ↦ c ∷ [] ] | false ↦ c ∷ (e ∷ []) ]) ≡ false → Open (lines (b ∷ (c ∷ (e ∷ []))))
    by true true p r q =
        subst (λ (k : ℕ). Open (lines (b ∷ (c ∷ (k ∷ []))))) (sym (eqb-true e 0x0A p))
        (subst (λ (k : ℕ). Open (lines (b ∷ (k ∷ (0x0A ∷ []))))) (sym (eqb-true c 0x0D r)) (open_returned b q))
    by true false p r q =
        subst (λ (k : ℕ). Open (lines (b ∷ (c ∷ (k ∷ []))))) (sym (eqb-true e 0x0A p)) (open_more b (c ∷ 0x0A ∷ []) (open_ended c (eqb-false c 0x0D r) q))
    by false u p r q = open_more b (c ∷ (e ∷ [])) (open_more c (e ∷ []) (open_end e (eqb-false e 0x0A p) q))

open_all : (b c e : ℕ) (s : List ℕ) → ends_with 0x60 (unended (b ∷ (c ∷ (e ∷ s)))) ≡ false → Open (lines (b ∷ (c ∷ (e ∷ s))))
unfolding unended ends_with
open_all b c e [] q = open_three b c e q
open_all b c e (f ∷ s) q = open_more b (c ∷ (e ∷ (f ∷ s))) (open_all c e f s q)

-- ---- all messages

-- fewer than three bytes have fewer than three lines
one_line : (c : ℕ) → (x : List ℕ) × (lines (c ∷ []) ≡ x ∷ [])
one_line c = by (eqb c 0x0A) refl
  where
    by : (t : Bool) → eqb c 0x0A ≡ t → (x : List ℕ) × (lines (c ∷ []) ≡ x ∷ [])
    by true e = ([], ap (λ (k : ℕ). lines (k ∷ [])) (eqb-true c 0x0A e) ∙ at_newline [] ∙ ap (λ (r : List (List ℕ)). [] ∷ r) lines_nil)
    by false e = (c ∷ [], lines_open c [] (eqb-false c 0x0A e, tt))

two_lines : (b c : ℕ) → by_lines [] (lines (b ∷ (c ∷ []))) ≡ none
unfolding lines before_line
two_lines b c = by (eqb b 0x0A) (starts_with (bytes "\r\n") (b ∷ (c ∷ []))) (lines (c ∷ [])) (one_line c).0 (one_line c).1
  where
    by : (t u : Bool) (l : List (List ℕ)) (x : List ℕ) → l ≡ x ∷ []
        → by_lines [] (elim t [ true ↦ [] ∷ l | false ↦ elim u [ true ↦ l | false ↦ before_line b l ] ]) ≡ none
    by true u l x e = ap (λ (r : List (List ℕ)). by_lines [] ([] ∷ r)) e ∙ by_two [] x
    by false true l x e = ap (by_lines []) e ∙ by_one [] x
    by false false l x e = ap (λ (r : List (List ℕ)). by_lines [] (before_line b r)) e ∙ by_one [] (b ∷ x)

pub not_closed : (m : List ℕ) → ends_with 0x60 (unended m) ≡ false → comparison m ≡ none
unfolding comparison
not_closed [] q = ap (by_lines []) lines_nil ∙ by_none []
not_closed (b ∷ []) q = ap (by_lines []) (one_line b).1 ∙ by_one [] (one_line b).0
not_closed (b ∷ (c ∷ [])) q = two_lines b c
not_closed (b ∷ (c ∷ (e ∷ s))) q = last_none [] (lines (b ∷ (c ∷ (e ∷ s)))) (open_last (lines (b ∷ (c ∷ (e ∷ s)))) (open_all b c e s q))
