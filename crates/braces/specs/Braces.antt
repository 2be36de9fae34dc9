-- The search for a closing brace (in the crate: `take_until_unbalanced`). Assumes nothing.
use Rattle.std.specs.Prelude.{ℕ, zero, suc, ◌+◌, ◌-◌, Bool, true, false, Option, Some, None, Result, Ok, Err, List, [], ◌∷◌, eqb, get_or}
use Rattle.buffer.specs.Table.{Maybe, none, some, Entry, ◌means◌, lookup}
use Rattle.refusals.specs.declared.Refusal.{Refusal}
use Rattle.refusals.specs.declared.Refusal.TheVariants.{HalfEscape}

-- what a byte can do in the search
pub data Mark : Type 0 where
  opens : Mark
  closes : Mark
  escapes : Mark
  neither : Mark

-- "A brace ends at its matching `}`; a backslash skips the character after it": the bytes that do something
abbrev pub brace_marks : List (Entry Mark)
brace_marks =
    "{" means opens
    ∷ "}" means closes
    ∷ "\\" means escapes
    ∷ []

-- any other byte does nothing
unfoldable pub or_neither : Maybe Mark → Mark
or_neither none = neither
or_neither (some m) = m

-- what the byte b does
unfoldable pub mark_of : ℕ → Mark
mark_of b = or_neither (lookup brace_marks (b ∷ []))

-- what the search finds: a place, none, or refusal 9
abbrev pub Closing : Type 0
Closing = Result (Option ℕ) Refusal

-- past the mark at place m, with k more braces open: how many are open then, and whether the next byte is skipped
unfoldable pub past_mark : (ℕ → Bool → Closing) → ℕ → ℕ → Mark → Closing
past_mark onward m k opens = onward (k + 1) false
past_mark onward m k closes = elim (eqb k 0) [ true ↦ Ok (Some m) | false ↦ onward (k - 1) false ]
past_mark onward m k escapes = onward k true
past_mark onward m k neither = onward k false

-- "A brace ends at its matching `}`; a backslash skips the character after it in this search only": n bytes are left from i on, k more
-- braces are open, and the last says whether the byte at i stands after a backslash (no later byte of a character is a mark).
-- Refusal 9: "a search for a closing brace meets a backslash as the last byte of its text"
unfoldable pub closing : List ℕ → ℕ → ℕ → ℕ → Bool → Closing
closing t zero i k true = Err HalfEscape
closing t zero i k false = Ok None
closing t (suc n) i k true = closing t n (i + 1) k false
closing t (suc n) i k false = past_mark (closing t n (i + 1)) i k (mark_of (get_or t i 0))
