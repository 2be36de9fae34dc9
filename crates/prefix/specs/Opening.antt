-- Scaffolding, for proofs alone: A prefix as it is built, code after code. Assumes nothing.
use Rattle.std.specs.Prelude.{ℕ, ◌+◌, ◌≤◌, ◌≡◌, Bool, cond, List, [], ◌∷◌, ◌++◌, eqb, take}
use Rattle.buffer.specs.Bytes.{byte, bytes}
use Rattle.words.specs.declared.Styles.{Styles}
use Rattle.colour.specs.Looks.{where_it_applies, following}

-- what stands before a code: `[` where byte 27 alone stands before it, else `;`
unfoldable pub between : ℕ → ℕ
between n = cond (eqb n 1) (byte "[") (byte ";")

-- the codes, b before the first and `;` before the others
abbrev pub codes_from : ℕ → List (List ℕ) → List ℕ
codes_from b [] = []
codes_from b (c ∷ cs) = b ∷ c ++ following cs

-- the first n bytes of d became the first m of d', with the code of a style where it applies, whatever codes are still to come
pub record Coded (d d' : List ℕ) (n m : ℕ) (x : Bool) (code : ℕ) : Type 0 where
  pub text : (cs : List (List ℕ)) → take m d' ++ codes_from (between m) cs ≡ take n d ++ codes_from (between n) (where_it_applies x (code ∷ []) cs)
  pub least : n ≤ m
  pub most : m ≤ n + 2

-- the sequence with its `m`; byte 27 alone begins none
abbrev pub sequence_ended : List ℕ → List ℕ
sequence_ended [] = []
sequence_ended (b ∷ []) = []
sequence_ended (b ∷ c ∷ s) = b ∷ c ∷ s ++ bytes "m"

-- the codes of the styles that apply, before others
abbrev pub applied : List (Bool × ℕ) → List (List ℕ) → List (List ℕ)
applied [] cs = cs
applied (y ∷ rest) cs = where_it_applies y.0 (y.1 ∷ []) (applied rest cs)

-- "style codes in the order 1 bold, 2 dimmed, 4 underline, 3 italic, 9 strike"
abbrev pub styles_of : Styles → List (Bool × ℕ)
styles_of y = (y.bold, byte "1") ∷ (y.dimmed, byte "2") ∷ (y.underline, byte "4") ∷ (y.italic, byte "3") ∷ (y.strike, byte "9") ∷ []
