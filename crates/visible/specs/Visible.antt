-- What a call answers for what is visible of a text: its colour sequences taken out once, left to right. Assumes nothing.
use Rattle.std.specs.Prelude.{ℕ, ◌^◌, ◌≡◌, refl, true, false, List, [], ◌∷◌, ltb, length}
use Rattle.buffer.specs.Bytes.{bytes}
use Rattle.utf8.specs.Utf8.{within}
use Rattle.runs.specs.Runs.{digit}
use Rattle.refusals.specs.declared.Refusal.{Refusal}
use Rattle.colour.specs.Sequences.{visible}
use Rattle.colour.specs.Computing as colour
use Rattle.answer.specs.Answers.{Outcome, line, refused, in_room}

-- an answer has no place for a length from here on: number + 256 × length has 64 bits. No machine can lend so much.
abbrev pub too_long : ℕ
too_long = 2 ^ 56

-- what is visible of the text s where there is room for it, else 13 with the length that it needs; 15 for a text that is too long
unfoldable pub visible_outcome : List ℕ → ℕ → Outcome
visible_outcome s room = elim (ltb (length s) too_long) [ true ↦ in_room room (visible s) | false ↦ refused Refusal.NotASheet ]

-- the same, with a lent buffer
abbrev pub visible_entry : List ℕ → List ℕ → Outcome
visible_entry s lent = visible_outcome s (length lent)

-- taken out once: what is left of `ESC[ESC[1mm` is a sequence, and it stays. With room for four bytes, and for three.
once : visible_outcome (bytes "a\u{1b}[\u{1b}[1mm") 4 ∷ visible_outcome (bytes "a\u{1b}[\u{1b}[1mm") 3 ∷ []
    ≡ line (bytes "a\u{1b}[m") ∷ refused (Refusal.LineTooLong 4) ∷ []
unfolding visible_outcome in_room colour.computes digit within
once = refl
