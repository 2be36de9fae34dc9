-- `parse_style` meets its contract: a word that an arm knows is the table's. Assumes nothing.
use native.Mathlib.Omega.{arith}
use mathlib.Core.Path.{sym, ap}
use Rattle.std.proofs.lemmas.Slice.Eq.{text_from_reads}
use Rattle.buffer.specs.Bytes.{bytes, same}
use Rattle.buffer.specs.Table.{lookup}
use Rattle.words.specs.Within.{found}
use Rattle.words.specs.Words.{styles}
use Rattle.words.proofs.parser.parse_style.Goals as goal

pub returns-in-bold : goal.returns-in-bold
unfolding found lookup same
returns-in-bold c = sym (ap (lookup styles) (text_from_reads c.args.word.now (bytes "bold") (omega arith) (omega arith)))

pub returns-in-italic : goal.returns-in-italic
unfolding found lookup same
returns-in-italic c = sym (ap (lookup styles) (text_from_reads c.args.word.now (bytes "italic") (omega arith) (omega arith)))

pub returns-in-underline : goal.returns-in-underline
unfolding found lookup same
returns-in-underline c = sym (ap (lookup styles) (text_from_reads c.args.word.now (bytes "underline") (omega arith) (omega arith)))

pub returns-in-strike : goal.returns-in-strike
unfolding found lookup same
returns-in-strike c = sym (ap (lookup styles) (text_from_reads c.args.word.now (bytes "strike") (omega arith) (omega arith)))

pub returns-in-dimmed : goal.returns-in-dimmed
unfolding found lookup same
returns-in-dimmed c = sym (ap (lookup styles) (text_from_reads c.args.word.now (bytes "dimmed") (omega arith) (omega arith)))
