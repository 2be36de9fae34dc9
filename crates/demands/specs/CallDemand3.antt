-- Demand 3, of line calls: "For accepted templates and records without byte 27 in their texts: in straight mode the coloured line with its
-- colour sequences taken out once, left to right, is byte for byte the plain line, and each group and specifier shown (but a host's message
-- and a print without level) fills exactly the larger of its width and its visible characters. In the crate's coloured mode a group's
-- padding falls short by exactly the smaller of the padding due and the bytes inserted." Assumes nothing.
use Rattle.std.specs.Prelude.{ℕ, ◌/◌, ◌%◌, ◌≡◌, List, take}
use Rattle.widths.specs.declared.Rule.{Rule}
use Rattle.colour.specs.declared.Settings.{Settings}
use Rattle.colour.specs.declared.Format.{Format}
use Rattle.colour.specs.Sequences.{visible}
use Rattle.colour.specs.Shown.{Members, joined}
use Rattle.colour.specs.Texts.{Eachs}
use Rattle.segments.specs.Segments.{LogSegments}
use Rattle.template.specs.Template.{read, read_template}
use Rattle.record.specs.declared.Form.{Form}
use Rattle.record.specs.Layout.{laid_out}
use Rattle.record.specs.Contents.{record_of}
use Rattle.fields.specs.Lines.{record_shown}
use Rattle.settings.specs.Bits.{rule_of, settings_of, form_of}
use Rattle.answer.specs.Answers.{Meets, line_entry}
use Rattle.visible.specs.Visible.{visible_entry}
use Rattle.demands.specs.Demand3.{Fills, FallsShort}
use Rattle.demands.specs.Lines.{FreeSegments, FreeRecord}

-- the settings bytes by their modes, "1 colour, 2 straight", in either edition, with records in that form and padded by that rule: with colour off
abbrev pub Colourless : Form → Rule → ℕ → Type 0
Colourless form rule settings = (settings % 2 ≡ 0) × ((form_of settings ≡ form) × (rule_of settings ≡ rule))

-- in straight mode
abbrev pub Straight : Form → Rule → ℕ → Type 0
Straight form rule settings = (settings % 4 ≡ 3) × ((form_of settings ≡ form) × (rule_of settings ≡ rule))

-- in the crate's coloured mode
abbrev pub Coloured : Form → Rule → ℕ → Type 0
Coloured form rule settings = (settings % 4 ≡ 1) × ((form_of settings ≡ form) × (rule_of settings ≡ rule))

-- a line call with these settings answered a line: its bytes are the first `answer / 256` of the buffer it left
abbrev pub Answered : List ℕ → ℕ → List ℕ → List ℕ → List ℕ → ℕ → Type 0
Answered t settings d lent left answer = Meets (line_entry t settings d lent) lent left answer × (answer % 256 ≡ 0)

-- what the line shows of a record in that form, by a template that was read as s
abbrev pub shown_by : Form → List ℕ → LogSegments → List ℕ → Members
shown_by form t s d = record_shown (record_of (laid_out form d)).level t (record_of (laid_out form d)) s

-- the line is made of what is shown, and P holds of each group and specifier shown
pub record MadeOf (P : Settings → Format → List ℕ → Type 0) (settings : ℕ) (m : Members) (x : List ℕ) : Type 0 where
  pub made : x ≡ joined (settings_of settings) m
  pub each : Eachs (P (settings_of settings)) (settings_of settings) m

-- of line calls on the template t, read as s ("accepted templates of either" edition: what the strict one reads, the first reads alike), and the record d
-- in that form, padded by that rule: in the places rule "visible characters read as places"
pub record CallDemand3 (form : Form) (rule : Rule) (t : List ℕ) (s : LogSegments) (d : List ℕ) : Type 0 where
  -- "in straight mode the coloured line with its colour sequences taken out once, left to right, is byte for byte the plain line": two calls
  pub same : read_template t ≡ read s → FreeSegments t s → FreeRecord (record_of (laid_out form d))
      → (coloured plain : ℕ) → Straight form rule coloured → Colourless form rule plain → (lent₁ lent₂ left₁ left₂ : List ℕ) (answer₁ answer₂ : ℕ)
      → Answered t coloured d lent₁ left₁ answer₁ → Answered t plain d lent₂ left₂ answer₂
      → visible (take (answer₁ / 256) left₁) ≡ take (answer₂ / 256) left₂
  -- the same of three calls: what a third call shows of the first one's line is the second one's line
  pub shown_plain : read_template t ≡ read s → FreeSegments t s → FreeRecord (record_of (laid_out form d))
      → (coloured plain : ℕ) → Straight form rule coloured → Colourless form rule plain → (lent₁ lent₂ lent₃ left₁ left₂ left₃ : List ℕ) (answer₁ answer₂ answer₃ : ℕ)
      → Answered t coloured d lent₁ left₁ answer₁
      → Answered t plain d lent₂ left₂ answer₂
      → Meets (visible_entry (take (answer₁ / 256) left₁) lent₃) lent₃ left₃ answer₃ → answer₃ % 256 ≡ 0
      → take (answer₃ / 256) left₃ ≡ take (answer₂ / 256) left₂
  -- "each group and specifier shown .. fills exactly the larger of its width and its visible characters": in straight mode, and with colour off
  pub fills_straight : read_template t ≡ read s → (settings : ℕ) → Straight form rule settings → (lent left : List ℕ) (answer : ℕ)
      → Answered t settings d lent left answer → MadeOf Fills settings (shown_by form t s d) (take (answer / 256) left)
  pub fills_plain : read_template t ≡ read s → (settings : ℕ) → Colourless form rule settings → (lent left : List ℕ) (answer : ℕ)
      → Answered t settings d lent left answer → MadeOf Fills settings (shown_by form t s d) (take (answer / 256) left)
  -- "In the crate's coloured mode a group's padding falls short by exactly the smaller of the padding due and the bytes inserted"
  pub falls_short : read_template t ≡ read s → (settings : ℕ) → Coloured form rule settings → (lent left : List ℕ) (answer : ℕ)
      → Answered t settings d lent left answer → MadeOf FallsShort settings (shown_by form t s d) (take (answer / 256) left)
