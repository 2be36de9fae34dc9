-- `measure::padding::before_text` meets its contract. Assumes nothing.
use native.Mathlib.Omega.{arith}
use mathlib.Core.Path.{ap, sym}
use Rattle.words.specs.declared.Alignment.{Alignment}
use Rattle.colour.specs.Formatting.{before}
use Rattle.measure.proofs.padding.before_text.Goals as goal

pub returns-in-Left : goal.returns-in-Left
unfolding before
returns-in-Left c =
    let n = c.args.n in
    (ap (λ (x : Alignment). before x n) (sym c.in-Left.is), omega arith)

pub returns-in-Center : goal.returns-in-Center
unfolding before
returns-in-Center c =
    let n = c.args.n in
    (ap (λ (x : Alignment). before x n) (sym c.in-Center.is), omega arith)

pub returns-in-Right : goal.returns-in-Right
unfolding before
returns-in-Right c =
    let n = c.args.n in
    (ap (λ (x : Alignment). before x n) (sym c.in-Right.is), omega arith)
