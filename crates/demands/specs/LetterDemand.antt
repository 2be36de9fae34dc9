-- Document 02, E3: names beside accented letters. Assumes nothing.
use Rattle.std.specs.Prelude.{ℕ, ◌≤◌, ◌<◌, ◌≡◌, true, false, List, ◌++◌, length, get_or}
use Rattle.buffer.specs.Bytes.{character}
use Rattle.utf8.specs.Utf8.{within, trail, valid}
use Rattle.runs.specs.Runs.{letter, letters_end}
use Rattle.points.specs.Ranges.{ends, rises_from}
use Rattle.letters.specs.Alphabetic.{alphabetic}
use Rattle.letters.specs.Letters.{is_alphabetic}
use Rattle.letters.specs.Marked.{marked}

-- what is read as letters in a template
pub record LetterDemand : Type 0 where
  -- "Please decide letters as Rust's `is_alphabetic` does": of the character with the code point n each byte is read as a letter's, or none is
  pub decided : (n : ℕ) → n < 0x110000 → (k : ℕ) → k < length (character n) → letter (get_or (marked (character n)) k 0) ≡ is_alphabetic n
  -- and nothing else of a template is touched: what is no letter is read as it stands, and so is ASCII
  pub as_it_is : (n : ℕ) → n < 0x110000 → is_alphabetic n ≡ false → marked (character n) ≡ character n
  pub ascii_as_it_is : (n : ℕ) → n < 0x80 → marked (character n) ≡ character n
  -- all that whatever follows the character
  pub one_by_one : (n : ℕ) → n < 0x110000 → (t : List ℕ) → marked (character n ++ t) ≡ marked (character n) ++ marked t
  -- "as a constant table of several hundred ranges shown sorted and disjoint"
  pub in_order : rises_from 0 (ends alphabetic) ≡ true
  -- "Names are whole letter runs": in UTF-8 a run never ends inside a character, so what follows it is no byte that goes on with one
  pub whole : (t : List ℕ) → valid t ≡ true → (i e : ℕ) → i ≤ e → e ≤ length t → i < letters_end (marked t) i e → letters_end (marked t) i e < e
      → within trail (get_or t (letters_end (marked t) i e) 0) ≡ false
  -- every byte keeps its place, so that what is read of the marked template is told of the template
  pub in_place : (t : List ℕ) → length (marked t) ≡ length t
