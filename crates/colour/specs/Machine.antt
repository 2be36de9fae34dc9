-- Scaffolding, for proofs alone: the search for colour sequences, byte by byte, as code goes: what each byte does in each state. That it finds what `visible` and
-- `reinserted` say is proved (`visible_strip`, `reinserted_ins`). Assumes nothing.
use Rattle.std.specs.Prelude.{ℕ, ◌+◌, ◌≡◌, refl, cond, List, [], ◌∷◌, ◌++◌, eqb}
use Rattle.buffer.specs.Bytes.{byte, bytes}
use Rattle.utf8.specs.Utf8.{within}
use Rattle.runs.specs.Runs.{digit}
use Rattle.colour.specs.declared.State.{State}
use Rattle.colour.specs.declared.State.TheVariants.{Outside, Escape, Bracket, LoneZero, Digits}
use Rattle.colour.specs.declared.Act.{Act}
use Rattle.colour.specs.declared.Act.TheVariants.{Text, Esc, More, Done, Reset}
use Rattle.colour.specs.declared.Scan.{Scan}
use Rattle.colour.specs.Sequences.{esc, in_sequence}

-- ---- what a byte does

-- a byte among digits and `;`: `m` ends the sequence, a digit or `;` goes on with it, any other byte shows that there is none
abbrev pub act_among : Act → State → ℕ → Act
act_among ending onward b = cond (eqb b (byte "m")) ending (cond (in_sequence b) (More onward) Text)

-- a byte other than 27 in each state: `Outside` any sequence, after byte 27 (`Escape`), after that and `[` (`Bracket`), after those and
-- a single `0` (`LoneZero`), after those and any other digits and `;` (`Digits`)
unfoldable pub act_in : State → ℕ → Act
act_in Outside b = Text
act_in Escape b = cond (eqb b (byte "[")) (More Bracket) Text
act_in Bracket b = act_among Done (cond (eqb b (byte "0")) LoneZero Digits) b
act_in LoneZero b = act_among Reset Digits b
act_in Digits b = act_among Done Digits b

-- byte 27 begins a sequence in any state
unfoldable pub act_of : State → ℕ → Act
act_of q b = cond (eqb b esc) Esc (act_in q b)

-- the state after what a byte does
abbrev pub after : Act → State
after Text = Outside
after Esc = Escape
after (More q) = q
after Done = Outside
after Reset = Outside

-- the state after a text
abbrev pub state_after : State → List ℕ → State
state_after q [] = q
state_after q (b ∷ s) = state_after (after (act_of q b)) s

-- ---- what code counts

-- the search after what one byte does
abbrev pub moved : Act → Scan → Scan
moved Text t = record { state = Outside; held = 0; sequences = t.sequences; resets = t.resets }
moved Esc t = record { state = Escape; held = 1; sequences = t.sequences; resets = t.resets }
moved (More q) t = record { state = q; held = t.held + 1; sequences = t.sequences; resets = t.resets }
moved Done t = record { state = Outside; held = 0; sequences = t.sequences + (t.held + 1); resets = t.resets }
moved Reset t = record { state = Outside; held = 0; sequences = t.sequences + (t.held + 1); resets = t.resets + 1 }

-- the search after a text
abbrev pub scan : Scan → List ℕ → Scan
scan t [] = t
scan t (b ∷ s) = scan (moved (act_of t.state b) t) s

-- outside any sequence, with some bytes in whole sequences and some resets so far
abbrev pub resting : ℕ → ℕ → Scan
resting n r = record { state = Outside; held = 0; sequences = n; resets = r }

-- before any byte
abbrev pub start : Scan
start = resting 0 0

-- ---- what is visible

-- what is left from a byte on, where h is held back and `rest` gives what is left after the byte
abbrev pub left_by : Act → List ℕ → ℕ → (State → List ℕ → List ℕ) → List ℕ
left_by Text h b rest = h ++ b ∷ rest Outside []
left_by Esc h b rest = h ++ rest Escape (b ∷ [])
left_by (More q) h b rest = rest q (h ++ b ∷ [])
left_by Done h b rest = rest Outside []
left_by Reset h b rest = rest Outside []

-- a text without its colour sequences; h is held back until it is known whether it begins one
abbrev pub strip : State → List ℕ → List ℕ → List ℕ
strip q h [] = h
strip q h (b ∷ s) = left_by (act_of q b) h b (λ q' h'. strip q' h' s)

-- ---- what is inserted

-- what is inserted behind a byte
abbrev pub behind : Act → List ℕ → List ℕ
behind Text p = []
behind Esc p = []
behind (More q) p = []
behind Done p = []
behind Reset p = p

-- a text with p inserted after each reset
abbrev pub ins : List ℕ → State → List ℕ → List ℕ
ins p q [] = []
ins p q (b ∷ s) = b ∷ behind (act_of q b) p ++ ins p (after (act_of q b)) s

searched : scan start (bytes "a\u{1b}[\u{1b}[1mm\u{1b}[0m\u{1b}[0;7mb\u{1b}[0") ≡ record { state = LoneZero; held = 3; sequences = 14; resets = 1 }
unfolding act_of act_in in_sequence digit within
searched = refl
