-- Scaffolding, for proofs alone: tables of words: the words of one, and the index of a word in it. Assumes nothing.
use Rattle.std.specs.Prelude.{ℕ, zero, suc, ◌≡◌, refl, Bool, true, false, Option, Some, None, List, [], ◌∷◌, ◌++◌, ltb, length, take, drop}
use Rattle.buffer.specs.Bytes.{bytes, same}
use Rattle.buffer.specs.Table.{Maybe, none, some, Entry}
use Rattle.runs.specs.Runs.{lower, lowered}

-- ---- what is compared

-- what is compared of a byte: in any case, its lower case
unfoldable pub compared_byte : Bool → ℕ → ℕ
compared_byte true b = lower b
compared_byte false b = b

-- what is compared of a word: in any case, the word lowered
unfoldable pub compared : Bool → List ℕ → List ℕ
compared true w = lowered w
compared false w = w

-- ---- tables in bytes

-- the words of a table, by their lengths and their letters one after the other: a length that runs past the letters is cut to their end
unfoldable pub words_in : List ℕ → List ℕ → List (List ℕ)
words_in [] s = []
words_in (k ∷ lengths) s = take k s ∷ words_in lengths (drop k s)

-- the index of the first word that is w, or the number of words where none is
unfoldable pub index_of : List (List ℕ) → List ℕ → ℕ
index_of [] w = 0
index_of (x ∷ rest) w = elim (same x w) [ true ↦ 0 | false ↦ suc (index_of rest w) ]

-- the index of the first word that is w, where one is
unfoldable pub find_word : List (List ℕ) → List ℕ → Option ℕ
find_word words w = elim (ltb (index_of words w) (length words)) [ true ↦ Some (index_of words w) | false ↦ None ]

-- ---- tables of entries

-- the words of the entries
abbrev pub spelled : {A : Type 0} → List (Entry A) → List (List ℕ)
spelled [] = []
spelled (x ∷ rest) = x.word ∷ spelled rest

-- the lengths of words
abbrev pub lengths_of : List (List ℕ) → List ℕ
lengths_of [] = []
lengths_of (x ∷ rest) = length x ∷ lengths_of rest

-- the letters of words, one after the other
abbrev pub letters_of : List (List ℕ) → List ℕ
letters_of [] = []
letters_of (x ∷ rest) = x ++ letters_of rest

-- what the entry at index i says
abbrev pub value_at : {A : Type 0} → List (Entry A) → ℕ → Maybe A
value_at [] i = none
value_at (x ∷ rest) zero = some x.value
value_at (x ∷ rest) (suc i) = value_at rest i

two_words : words_in (3 ∷ 4 ∷ []) (bytes "redblue") ≡ bytes "red" ∷ bytes "blue" ∷ []
unfolding words_in
two_words = refl

cut_to_the_end : words_in (3 ∷ 9 ∷ 1 ∷ []) (bytes "redblue") ≡ bytes "red" ∷ bytes "blue" ∷ [] ∷ []
unfolding words_in
cut_to_the_end = refl
