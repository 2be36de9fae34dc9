-- Colour sequences in a text, by looking ahead: what is visible, and what is inserted after resets (document 01, "Building a line").
-- Assumes nothing.
use Rattle.std.specs.Prelude.{ℕ, zero, suc, ◌≡◌, refl, Bool, true, false, ◌||◌, List, [], ◌∷◌, ◌++◌, eqb}
use Rattle.buffer.specs.Bytes.{byte, bytes}
use Rattle.utf8.specs.Utf8.{within}
use Rattle.runs.specs.Runs.{digit}

-- byte 27, written ESC
abbrev pub esc : ℕ
esc = 27

-- "the reset, bytes 27 91 48 109"
abbrev pub reset : List ℕ
reset = esc ∷ bytes "[0m"

-- ---- where a colour sequence begins, and how long it is

-- a byte before what was found, if anything was found (0 is nothing)
unfoldable pub longer : ℕ → ℕ
longer zero = 0
longer (suc n) = suc (suc n)

-- "any digits and `;`"
unfoldable pub in_sequence : ℕ → Bool
in_sequence b = digit b || eqb b (byte ";")

-- "any digits and `;`, `m`": its length where the text begins so, else 0
unfoldable pub tail_length : List ℕ → ℕ
tail_length [] = 0
tail_length (b ∷ s) = elim (eqb b (byte "m")) [ true ↦ 1 | false ↦ elim (in_sequence b) [ true ↦ longer (tail_length s) | false ↦ 0 ] ]

-- "`[`, any digits and `;`, `m`"
unfoldable pub bracket_length : List ℕ → ℕ
bracket_length [] = 0
bracket_length (b ∷ s) = elim (eqb b (byte "[")) [ true ↦ longer (tail_length s) | false ↦ 0 ]

-- "a colour sequence is byte 27, `[`, any digits and `;`, `m`"
unfoldable pub sequence_length : List ℕ → ℕ
sequence_length [] = 0
sequence_length (b ∷ s) = elim (eqb b esc) [ true ↦ longer (bracket_length s) | false ↦ 0 ]

-- ---- what is visible

-- a byte stays where no sequence begins with it; else the rest of the sequence is passed over
unfoldable pub unless_sequence : ℕ → ℕ → (ℕ → List ℕ) → List ℕ
unless_sequence zero b after = b ∷ after 0
unless_sequence (suc n) b after = after n

-- n bytes are still to be passed over
unfoldable pub passing : ℕ → List ℕ → List ℕ
passing n [] = []
passing (suc n) (b ∷ s) = passing n s
passing zero (b ∷ s) = unless_sequence (sequence_length (b ∷ s)) b (λ n. passing n s)

-- "what is left after removing them once, left to right, is visible"
unfoldable pub visible : List ℕ → List ℕ
visible s = passing 0 s

-- ---- what is inserted

-- whether a text begins with another
unfoldable pub starts_with : List ℕ → List ℕ → Bool
starts_with [] s = true
starts_with (a ∷ x) [] = false
starts_with (a ∷ x) (b ∷ s) = elim (eqb b a) [ true ↦ starts_with x s | false ↦ false ]

-- how many bytes of a reset that begins here follow its first
unfoldable pub rest_of_reset : Bool → ℕ
rest_of_reset true = 3
rest_of_reset false = 0

-- n bytes of a reset are still to be copied
unfoldable pub copying : List ℕ → ℕ → List ℕ → List ℕ
copying p n [] = []
copying p zero (b ∷ s) = b ∷ copying p (rest_of_reset (starts_with reset (b ∷ s))) s
copying p (suc zero) (b ∷ s) = b ∷ p ++ copying p 0 s
copying p (suc (suc n)) (b ∷ s) = b ∷ copying p (suc n) s

-- "After each reset already in the text the prefix is inserted again"
unfoldable pub reinserted : List ℕ → List ℕ → List ℕ
reinserted p s = copying p 0 s

one_pass : visible (bytes "a\u{1b}[\u{1b}[1mm\u{1b}[0;7mb\u{1b}[x\u{1b}[1") ≡ bytes "a\u{1b}[mb\u{1b}[x\u{1b}[1"
unfolding visible passing unless_sequence sequence_length bracket_length tail_length longer in_sequence digit within
one_pass = refl

after_resets : reinserted (bytes "!") (bytes "a\u{1b}[0mb\u{1b}[m\u{1b}[0;0m\u{1b}[0m") ≡ bytes "a\u{1b}[0m!b\u{1b}[m\u{1b}[0;0m\u{1b}[0m!"
unfolding reinserted copying rest_of_reset starts_with
after_resets = refl
