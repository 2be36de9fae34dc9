-- Laws of the text of components, one after the other. Assumes nothing.
use Rattle.std.proofs.Common.{◌≡◌, ap, sym, ◌∙◌, ℕ, suc, List, [], ◌∷◌, ◌++◌, drop, Bor}
use lib.Seq.{drop-nil}
use Rattle.std.specs.Prelude.{Option, Some, None}
use Rattle.std.specs.Iterator.{YieldsFirstRef}
use Rattle.buffer.specs.Bytes.{bytes}
use Rattle.paths.specs.Paths.{components, last_of, slashed, joined_by_slash, file_name}
use Rattle.fields.specs.Texts.{no_file, or_placeholder}

-- one component less to pass over
pub skip_one : (k : ℕ) (l t : List (List ℕ)) (r : Option (Bor (List ℕ))) → YieldsFirstRef (λ (x : List (List ℕ)). x) l r t → drop k t ≡ drop (suc k) l
skip_one k l t None h = ap (drop k) h.1 ∙ drop-nil k ∙ ap (drop (suc k)) (sym h.0)
skip_one k l t (Some x) h = ap (drop (suc k)) (sym h)

-- the first component that is shown has no slash before it
module _ (n : ℕ) (path : List ℕ) where
  pub name_shown : (x : List ℕ) (t : List (List ℕ)) → last_of n (components path) ≡ x ∷ t → or_placeholder no_file (file_name n path) ≡ x ++ slashed t
  unfolding or_placeholder file_name joined_by_slash
  name_shown x t e = ap (λ (l : List (List ℕ)). or_placeholder no_file (joined_by_slash l)) e

  pub name_missing : last_of n (components path) ≡ [] → or_placeholder no_file (file_name n path) ≡ no_file
  unfolding or_placeholder file_name joined_by_slash
  name_missing e = ap (λ (l : List (List ℕ)). or_placeholder no_file (joined_by_slash l)) e

-- each of the others has one
module _ (l : List (List ℕ)) where
  pub slashed_more : (x : List ℕ) (t : List (List ℕ)) → l ≡ x ∷ t → slashed l ≡ bytes "/" ++ (x ++ slashed t)
  unfolding slashed
  slashed_more x t e = ap slashed e

  pub slashed_done : l ≡ [] → slashed l ≡ []
  unfolding slashed
  slashed_done e = ap slashed e
