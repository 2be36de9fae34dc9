-- Demand 3, of the lines that demand 2 defines: what is seen does not depend on colour in straight mode; every field fills its width in
-- plain and in straight mode; in the crate's coloured mode it falls short by exactly what is counted against its padding.
-- It is said of any settings, by either rule, and of whatever is shown; `joined s m` is the line of the members m in the settings s. Assumes nothing.
use Rattle.std.specs.Prelude.{ℕ, ◌+◌, min, max, ◌≡◌, List}
use Rattle.widths.specs.Widths.{count}
use Rattle.colour.specs.declared.Settings.{Settings}
use Rattle.colour.specs.declared.Format.{Format}
use Rattle.colour.specs.Modes.{plain, straight, coloured}
use Rattle.colour.specs.Sequences.{visible}
use Rattle.colour.specs.Formatting.{due, prefix_in, inserted, padded, formatted}
use Rattle.colour.specs.Shown.{Members, joined}
use Rattle.colour.specs.Texts.{Free, Quiets, Eachs}

-- ---- one specifier or group: its format f, and its text t before it is formatted

-- the larger of its width and its visible characters; in the places rule "demand 3's visible characters read as places"
abbrev pub extent : Settings → Format → List ℕ → ℕ
extent s f t = max f.width (count s.rule (visible t))

-- what is seen of it
abbrev pub seen : Settings → Format → List ℕ → ℕ
seen s f t = count s.rule (visible (formatted s f t))

-- it fills exactly that extent
abbrev pub Fills : Settings → Format → List ℕ → Type 0
Fills s f t = seen s f t ≡ extent s f t

-- the smaller of the padding due and the bytes inserted after the resets inside it
abbrev pub lost : Settings → Format → List ℕ → ℕ
lost s f t = min (due s f t) (inserted (prefix_in s.colour f.look) t)

-- by exactly that its padding is less than the padding due, and what is seen of it falls short of its extent
pub record FallsShort (s : Settings) (f : Format) (t : List ℕ) : Type 0 where
  -- this unfolds what `padded` is defined as in that mode
  pub padding : padded s f t + lost s f t ≡ due s f t
  -- this says something of the bytes written: what is seen of them is short by that much
  pub filled : seen s f t + lost s f t ≡ extent s f t

-- ---- the demand

-- what is demanded of every line
pub record Demand3 (s : Settings) (m : Members) : Type 0 where
  -- it is said by the rule of the settings, in all three modes
  pub kept : ((plain s).rule ≡ s.rule) × (((straight s).rule ≡ s.rule) × ((coloured s).rule ≡ s.rule))
  -- where no text shown holds byte 27: what is visible of the straight line is the plain line, which holds no byte 27 either
  pub same : Quiets m → visible (joined (straight s) m) ≡ joined (plain s) m
  pub plain_free : Quiets m → Free (joined (plain s) m)
  -- with colour off it makes no difference which of the two coloured modes is set
  pub plain_one : joined (plain s) m ≡ joined (plain (straight s)) m
  -- each specifier and group shown fills its extent, with colour off and in straight mode
  pub fills_plain : Eachs (Fills (plain s)) (plain s) m
  pub fills_straight : Eachs (Fills (straight s)) (straight s) m
  -- and in the crate's mode it falls short by exactly what it lost
  pub falls_short : Eachs (FallsShort (coloured s)) (coloured s) m
