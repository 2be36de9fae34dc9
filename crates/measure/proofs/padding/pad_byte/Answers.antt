-- `measure::padding::pad_byte` meets its contract. Assumes nothing.
use mathlib.Core.Path.{ap, sym}
use Rattle.colour.specs.Formatting.{pad_byte}
use Rattle.measure.proofs.padding.pad_byte.Goals as goal

pub returns-in-Space : goal.returns-in-Space
unfolding pad_byte
returns-in-Space c = ap pad_byte (sym c.in-Space.is)

pub returns-in-Zero : goal.returns-in-Zero
unfolding pad_byte
returns-in-Zero c = ap pad_byte (sym c.in-Zero.is)
