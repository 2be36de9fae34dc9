-- Scaffolding, for proofs alone: the wide characters that are seen of a text, byte by byte, as code goes along with the search for colour sequences.
-- That they are those of what is visible is proved (`visible_wides`). Assumes nothing.
use Rattle.std.specs.Prelude.{ℕ, zero, suc, List, [], ◌∷◌}
use Rattle.widths.specs.declared.Wides.{Wides}
use Rattle.widths.specs.Widths.{none_begun, advanced}
use Rattle.colour.specs.declared.Act.{Act}
use Rattle.colour.specs.declared.Act.TheVariants.{Text, Esc, More, Done, Reset}
use Rattle.colour.specs.declared.Scan.{Scan}
use Rattle.colour.specs.Machine.{act_of, moved}

-- bytes that were held, so many of them, begin no sequence and are seen: they are ASCII, so that no character has begun behind them
abbrev pub let_go : ℕ → Wides → Wides
let_go zero w = w
let_go (suc k) w = none_begun w.wide

-- what is seen after what the byte b does, where so many bytes were held
abbrev pub looked_at : Act → ℕ → Wides → ℕ → Wides
looked_at Text k w b = advanced (let_go k w) b
looked_at Esc k w b = let_go k w
looked_at (More q) k w b = w
looked_at Done k w b = w
looked_at Reset k w b = w

-- what is seen after a text
abbrev pub seen_after : Scan → Wides → List ℕ → Wides
seen_after t w [] = w
seen_after t w (b ∷ s) = seen_after (moved (act_of t.state b) t) (looked_at (act_of t.state b) t.held w b) s
