-- `rows::bare_row` meets its contract. Assumes nothing.
use mathlib.Core.Path.{refl}
use Rattle.rows.specs.Rows.{bare_row}
use Rattle.rows.proofs.bare_row.Goals as goal

pub returns : goal.returns
unfolding bare_row
returns c = refl
