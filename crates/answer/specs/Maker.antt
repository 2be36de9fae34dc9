-- Scaffolding, for proofs alone: what lines are made by, as a contract sees it. Assumes nothing.
use Rattle.std.specs.Prelude.{ℕ, ◌≤◌, List, length}
use Rattle.colour.specs.declared.Settings.{Settings}
use Rattle.record.specs.declared.Form.{Form}
use Rattle.segments.specs.declared.Cell.{Cell}
use Rattle.settings.specs.Bits.{settings_of, form_of}
use Rattle.template.specs.Parsing.{ReadKeeps}

-- what lines are made by: the form of the records, how a line is shown, and a template with the pool that it was read into, as so many segments
pub record Maker : Type 0 where
  pub form : Form
  pub settings : Settings
  pub template : List ℕ
  pub cells : List Cell
  pub count : ℕ

-- as the settings byte says
abbrev pub maker_of : ℕ → List ℕ → List Cell → ℕ → Maker
maker_of settings t cells n = record {
  form = form_of settings;
  settings = settings_of settings;
  template = t;
  cells = cells;
  count = n;
}

-- a template that was read into the pool, as n segments
pub record IsRead (t : List ℕ) (cells : List Cell) (n : ℕ) : Type 0 where
  pub pool : 64 ≤ length cells
  pub read : ReadKeeps cells n
  pub template : length t ≤ 1024
