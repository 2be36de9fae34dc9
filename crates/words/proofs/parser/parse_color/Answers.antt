-- `parse_color` meets its contract: a word that an arm knows is the table's. Assumes nothing.
use native.Mathlib.Omega.{arith}
use mathlib.Core.Path.{sym, ap}
use Rattle.std.proofs.lemmas.Slice.Eq.{text_from_reads}
use Rattle.buffer.specs.Bytes.{bytes, same}
use Rattle.buffer.specs.Table.{lookup}
use Rattle.runs.specs.Runs.{lowered}
use Rattle.words.specs.Within.{found}
use Rattle.words.specs.Words.{either, level_colours, colours}
use Rattle.words.proofs.parser.parse_color.Goals as goal

pub returns-in-severity : goal.returns-in-severity
unfolding found either lookup same
returns-in-severity c =
    let w = c.args.word.now in
    sym (ap (λ v. either (lookup level_colours v) (lookup colours (lowered w))) (text_from_reads w (bytes "severity") (omega arith) (omega arith)))

pub returns-in-werror : goal.returns-in-werror
unfolding found either lookup same
returns-in-werror c =
    let w = c.args.word.now in
    sym (ap (λ v. either (lookup level_colours v) (lookup colours (lowered w))) (text_from_reads w (bytes "werror") (omega arith) (omega arith)))
