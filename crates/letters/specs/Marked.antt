-- A template as its names are read: in place of each byte of a letter beyond ASCII stands a mark. Every byte keeps its place. Assumes nothing.
use Rattle.std.specs.Prelude.{ℕ, zero, suc, ◌-◌, ◌≡◌, refl, Bool, true, false, ◌&&◌, List, [], ◌∷◌, ◌++◌, leb, get_or}
use Rattle.buffer.specs.Bytes.{bytes}
use Rattle.utf8.specs.Utf8.{within}
use Rattle.runs.specs.Runs.{letter_mark}
use Rattle.points.specs.Decoding.{size_of, point}
use Rattle.points.specs.Ranges.{among}
use Rattle.letters.specs.Alphabetic.{alphabetic}
use Rattle.letters.specs.Letters.{is_alphabetic}

-- whether t begins with a letter beyond ASCII: a character of several bytes that is a letter
unfoldable pub opens_letter : List ℕ → Bool
opens_letter t = leb 0xC0 (get_or t 0 0) && is_alphabetic (point (get_or t 0 0) (get_or t 1 0) (get_or t 2 0) (get_or t 3 0))

-- t goes on with a character of which n bytes are left; with none left its next byte begins another: the bytes that are left with this one
unfoldable pub left_in : ℕ → List ℕ → ℕ
left_in zero t = size_of (get_or t 0 0)
left_in (suc n) t = suc n

-- and whether the character is a letter beyond ASCII
unfoldable pub letter_in : ℕ → Bool → List ℕ → Bool
letter_in zero l t = opens_letter t
letter_in (suc n) l t = l

-- the byte b as it is seen: a mark in place of a letter's
unfoldable pub seen_as : Bool → ℕ → ℕ
seen_as true b = letter_mark
seen_as false b = b

-- t as it is seen behind a character of which n bytes are left, and which is a letter beyond ASCII or not
unfoldable pub marked_on : ℕ → Bool → List ℕ → List ℕ
marked_on n l [] = []
marked_on n l (b ∷ t) =
    seen_as (letter_in n l (b ∷ t)) b ∷ marked_on (left_in n (b ∷ t) - 1) (letter_in n l (b ∷ t)) t

-- a template with its letters beyond ASCII marked
unfoldable pub marked : List ℕ → List ℕ
marked t = marked_on 0 false t

accented : marked (bytes "{Été {L}") ≡ bytes "{" ++ (letter_mark ∷ letter_mark ∷ bytes "t") ++ (letter_mark ∷ letter_mark ∷ bytes " {L}")
unfolding marked marked_on seen_as letter_in left_in opens_letter is_alphabetic alphabetic among within point size_of
accented = refl

no_letters : marked (bytes "{s→}\n└─ {m²}") ≡ bytes "{s→}\n└─ {m²}"
unfolding marked marked_on seen_as letter_in left_in opens_letter is_alphabetic alphabetic among within point size_of
no_letters = refl
