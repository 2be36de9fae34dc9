-- `answer::put_text` meets its contract. Assumes nothing.
use Rattle.std.proofs.Common.{refl, sym, ◌∙◌, arith}
use Rattle.line.proofs.Written.{written_short, written_whole}
use Rattle.answer.proofs.put_text.Goals as goal

pub returns-then-out-text : goal.returns-then-out-text
returns-then-out-text c = (refl, sym (written_short c.args.out.now c.args.text.now c.if-out-text.true))

pub returns : goal.returns
returns c = (omega (arith, c.put.ensures.0), c.put.ensures.1 ∙ sym (written_whole c.args.out.now c.args.text.now c.if-out-text.false))
