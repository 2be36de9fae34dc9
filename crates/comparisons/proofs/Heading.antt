-- Laws of the head of a comparison: its lines from a place on, one by one. Assumes nothing.
use mathlib.Core.Path.{◌≡◌, refl, ap, sym, ◌∙◌}
use mathlib.Core.List.{List, [], ◌∷◌, ◌++◌, append-nil}
use Prim.Native.Nat.{ℕ, ◌≤◌}
use native.Mathlib.Omega.{arith}
use Rattle.buffer.specs.Bytes.{bytes, part}
use Rattle.comparisons.specs.Comparisons.{lines, joined_by_newline}
use Rattle.comparisons.specs.Places.{on_new_lines, head_text, LineAt}
use Rattle.comparisons.specs.declared.Lined.{Lined}
use Rattle.comparisons.proofs.Parts.{part_none}
use Rattle.comparisons.proofs.Lining.{lines_nil}

-- the lines from place k up to place e, a newline before each
abbrev pub lines_from : ℕ → ℕ → List ℕ → List ℕ
lines_from k e d = on_new_lines (lines (part k e d))

-- ---- nothing left

joined_nil : joined_by_newline [] ≡ []
unfolding joined_by_newline
joined_nil = refl

on_new_lines_nil : on_new_lines [] ≡ []
unfolding on_new_lines
on_new_lines_nil = refl

no_lines : (d : List ℕ) (k e : ℕ) → e ≤ k → lines (part k e d) ≡ []
no_lines d k e h = ap lines (part_none d k e h) ∙ lines_nil

pub head_none : (d : List ℕ) (i e : ℕ) → i ≡ e → head_text i e d ≡ []
head_none d i e h = ap joined_by_newline (no_lines d i e (omega arith)) ∙ joined_nil

pub lines_none : (d : List ℕ) (k e : ℕ) → e ≤ k → lines_from k e d ≡ []
lines_none d k e h = ap on_new_lines (no_lines d k e h) ∙ on_new_lines_nil

-- ---- the first line and those after it

joined_first : (x : List ℕ) (rest : List (List ℕ)) → joined_by_newline (x ∷ rest) ≡ x ++ on_new_lines rest
unfolding joined_by_newline on_new_lines
joined_first x [] = sym (append-nil x)
joined_first x (y ∷ rest) = ap (λ (s : List ℕ). x ++ (bytes "\n" ++ s)) (joined_first y rest)

on_new_lines_first : (x : List ℕ) (rest : List (List ℕ)) → on_new_lines (x ∷ rest) ≡ bytes "\n" ++ (x ++ on_new_lines rest)
unfolding on_new_lines
on_new_lines_first x rest = refl

module _ (d : List ℕ) (k e : ℕ) (r : Lined) (w : LineAt d k e r) where
  -- the line itself, and the lines after it
  abbrev line : List ℕ
  line = part k r.end d

  abbrev after : List ℕ
  after = lines_from r.next e d

  pub head_first : head_text k e d ≡ line ++ after
  head_first = ap joined_by_newline w.first ∙ joined_first line (lines (part r.next e d))

  pub lines_first : lines_from k e d ≡ bytes "\n" ++ (line ++ after)
  lines_first = ap on_new_lines w.first ∙ on_new_lines_first line (lines (part r.next e d))
