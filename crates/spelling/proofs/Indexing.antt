-- Laws of the index of a word in a table. Assumes nothing.
use Prim.Native.Nat.{ℕ, zero, suc, ◌+◌, ◌≤◌, ◌<◌, min}
use mathlib.Core.Path.{◌≡◌, refl, sym, ap, subst, ◌∙◌}
use mathlib.Core.Bool.{Bool, true, false}
use Rattle.std.specs.Prelude.{Option, Some, None, MatchOption}
use mathlib.Core.List.{List, [], ◌∷◌, ◌++◌}
use native.Mathlib.Omega.{arith}
use native.Mathlib.Nat.{zero-min, min-zero, suc-min-suc}
use lib.Dec.{ltb}
use lib.ListN.{length, get_or, take, drop, drop_of_length-le}
use lib.Seq.{take-append_seam, drop-append_seam}
use borrow.Author.Tests.{lt-ltb, le-ltb, ltb-true, ltb-false}
use Rattle.buffer.specs.Bytes.{same}
use Rattle.buffer.specs.Table.{none, some, Entry, lookup}
use Rattle.buffer.proofs.Parts.{drop_step}
use Rattle.spelling.specs.Tables.{words_in, index_of, find_word, spelled, lengths_of, letters_of, value_at}

-- ---- one word of a list

module _ (x : List ℕ) (rest : List (List ℕ)) (w : List ℕ) where
  index_here : same x w ≡ true → index_of (x ∷ rest) w ≡ 0
  unfolding index_of
  index_here q = rw (q, index_of)

  index_on : same x w ≡ false → index_of (x ∷ rest) w ≡ suc (index_of rest w)
  unfolding index_of
  index_on q = rw (q, index_of)

-- ---- the index where there is a word, and none where there is none

module _ (words : List (List ℕ)) (w : List ℕ) where
  pub found_at : (i : ℕ) → i ≡ index_of words w → i < length words → Some i ≡ find_word words w
  unfolding find_word
  found_at i e h = rw (lt-ltb (index_of words w) (length words) (omega arith), find_word) (ap Some e)

  pub found_none : length words ≤ index_of words w → None ≡ find_word words w
  unfolding find_word
  found_none h = rw (le-ltb (index_of words w) (length words) h, find_word)

  tells : (b : Bool) → ltb (index_of words w) (length words) ≡ b → (o : Option ℕ) → o ≡ elim b [ true ↦ Some (index_of words w) | false ↦ None ]
      → MatchOption o (length words ≤ index_of words w) (λ i. (i ≡ index_of words w) × (i < length words))
  tells true h None e = cc
  tells true h (Some i) e = let k : i ≡ index_of words w = cc in let g = ltb-true _ _ h in (k, omega arith)
  tells false h None e = ltb-false _ _ h
  tells false h (Some i) e = cc

  -- what an answer tells
  pub found_tells : (o : Option ℕ) → o ≡ find_word words w → MatchOption o (length words ≤ index_of words w) (λ i. (i ≡ index_of words w) × (i < length words))
  unfolding find_word
  found_tells o e = tells (ltb (index_of words w) (length words)) refl o e

-- ---- a table in bytes: what is left of it is a word and what is left after that

-- a length past the end of l is cut to it
pub cut : (n : ℕ) (l : List ℕ) → (take (min (length l) n) l ≡ take n l) × (drop (min (length l) n) l ≡ drop n l)
cut zero l = rw min-zero (refl, refl)
cut (suc n) [] = rw zero-min (refl, refl)
cut (suc n) (x ∷ l) = let h = cut n l in rw (suc-min-suc (length l) n) (ap (λ (r : List ℕ). x ∷ r) h.0, h.1)

-- a table has a word for each length
words_count : (l s : List ℕ) → length (words_in l s) ≡ length l
unfolding words_in
words_count [] s = refl
words_count (n ∷ l) s = ap suc (words_count l (drop n s))

-- the table of the lengths l and the letters `all`, in which the lengths from index i on belong to the letters s
module _ (l all w : List ℕ) (i : ℕ) (s : List ℕ) (r : i + index_of (words_in (drop i l) s) w ≡ index_of (words_in l all) w) where
  -- s is cut into the word at i and what is left after it
  module _ (g : i < length l) (n : ℕ) (k : n ≡ get_or l i 0) (m : ℕ) (h : m ≡ min (length s) n) (front rest : List ℕ) (p : front ≡ take m s) (q : rest ≡ drop m s) where
    words_step : index_of (words_in (drop i l) s) w ≡ index_of (front ∷ words_in (drop (i + 1) l) rest) w
    unfolding words_in
    words_step =
        ap (λ (y : List ℕ). index_of (words_in y s) w) (drop_step l i g ∙ ap (λ (j : ℕ). j ∷ drop (i + 1) l) (sym k))
        ∙ ap (λ (y : List ℕ). index_of (y ∷ words_in (drop (i + 1) l) (drop n s)) w) (sym (p ∙ ap (λ (j : ℕ). take j s) h ∙ (cut n s).0))
        ∙ ap (λ (y : List ℕ). index_of (front ∷ words_in (drop (i + 1) l) y) w) (sym (q ∙ ap (λ (j : ℕ). drop j s) h ∙ (cut n s).1))

    pub index_found : same front w ≡ true → Some i ≡ find_word (words_in l all) w
    index_found b =
        let k = words_step ∙ index_here _ _ w b in
        found_at (words_in l all) w i (omega arith) (omega (arith, words_count l all))

    pub index_again : same front w ≡ false → i + 1 + index_of (words_in (drop (i + 1) l) rest) w ≡ index_of (words_in l all) w
    index_again b = let k = words_step ∙ index_on _ _ w b in omega arith

  -- after the last word
  pub index_end : length l ≤ i → None ≡ find_word (words_in l all) w
  unfolding words_in index_of
  index_end h =
      let k : index_of (words_in (drop i l) s) w ≡ 0 = ap (λ (y : List ℕ). index_of (words_in y s) w) (drop_of_length-le l h) in
      found_none (words_in l all) w (omega (arith, words_count l all))

-- ---- a table of entries

-- what a table says of a word is what its entry at the word's index says
pub lookup_index : {A : Type 0} (table : List (Entry A)) (w : List ℕ) → lookup table w ≡ value_at table (index_of (spelled table) w)
unfolding lookup index_of
lookup_index [] w = refl
lookup_index (x ∷ rest) w = by_test (same x.word w) (lookup_index rest w)
  where
    by_test : (b : Bool) → lookup rest w ≡ value_at rest (index_of (spelled rest) w)
        → elim b [ true ↦ some x.value | false ↦ lookup rest w ] ≡ value_at (x ∷ rest) (elim b [ true ↦ 0 | false ↦ suc (index_of (spelled rest) w) ])
    by_test true h = refl
    by_test false h = h

-- words are those of their lengths and letters
words_again : (words : List (List ℕ)) → words_in (lengths_of words) (letters_of words) ≡ words
unfolding words_in
words_again [] = refl
words_again (x ∷ rest) =
    ap (λ (y : List ℕ). y ∷ words_in (lengths_of rest) (drop (length x) (x ++ letters_of rest))) (take-append_seam x (letters_of rest))
    ∙ ap (λ (y : List ℕ). x ∷ words_in (lengths_of rest) y) (drop-append_seam x (letters_of rest))
    ∙ ap (λ (y : List (List ℕ)). x ∷ y) (words_again rest)

value_past : {A : Type 0} (table : List (Entry A)) (i : ℕ) → length table ≤ i → value_at table i ≡ none
value_past [] i h = refl
value_past (x ∷ rest) zero h = absurd (let z : ⊥ = omega arith in z)
value_past (x ∷ rest) (suc i) h = value_past rest i (omega arith)

entries_count : {A : Type 0} (table : List (Entry A)) → length (spelled table) ≡ length table
entries_count [] = refl
entries_count (x ∷ rest) = ap suc (entries_count rest)

-- o is what is found for w in the lengths and letters of the table: the index of an entry, or none
module _ {A : Type 0} (table : List (Entry A)) (w : List ℕ) where
  abbrev pub FoundIn : Option ℕ → Type 0
  FoundIn o = o ≡ find_word (words_in (lengths_of (spelled table)) (letters_of (spelled table))) w

  told : (o : Option ℕ) → FoundIn o → MatchOption o (length table ≤ index_of (spelled table) w) (λ i. (i ≡ index_of (spelled table) w) × (i < length table))
  told o q =
      let e : o ≡ find_word (spelled table) w = q ∙ ap (λ (l : List (List ℕ)). find_word l w) (words_again (spelled table)) in
      subst (λ (n : ℕ). MatchOption o (n ≤ index_of (spelled table) w) (λ i. (i ≡ index_of (spelled table) w) × (i < n))) (entries_count table) (found_tells (spelled table) w o e)

  -- an index that is found is that of an entry
  pub listed_below : (i : ℕ) → FoundIn (Some i) → i < length table
  listed_below i q = (told (Some i) q).1

  pub listed : (i : ℕ) → FoundIn (Some i) → (a : A) → value_at table i ≡ some a → lookup table w ≡ some a
  listed i q a h = lookup_index table w ∙ ap (value_at table) (sym (told (Some i) q).0) ∙ h

  pub unlisted : FoundIn None → lookup table w ≡ none
  unlisted q = lookup_index table w ∙ value_past table (index_of (spelled table) w) (told None q)

-- ---- a `match` on an index

-- r is none of the first n numbers: what the last arm of a `match` knows
abbrev pub NoneBelow : ℕ → ℕ → Type 0
NoneBelow zero r = Unit {0}
NoneBelow (suc n) r = NoneBelow n r × (r ≡ n → ⊥)

past : (n r : ℕ) → NoneBelow n r → n ≤ r
past zero r h = omega arith
past (suc n) r h = let g = past n r h.0 in let k : r ≡ n → ⊥ = h.1 in omega arith

pub last_index : (n r : ℕ) → NoneBelow n r → r < suc n → r ≡ n
last_index n r h g = let k = past n r h in omega arith
