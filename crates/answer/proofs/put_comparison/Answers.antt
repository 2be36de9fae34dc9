-- `answer::put_comparison` meets its contract. Assumes nothing.
use mathlib.Core.Path.{sym, ◌∙◌}
use native.Mathlib.Omega.{arith}
use Rattle.layouts.specs.Runs.{laid_text}
use Rattle.line.proofs.Written.{written_short, written_whole}
use Rattle.answer.proofs.put_comparison.Goals as goal

pub returns-then-out-len : goal.returns-then-out-len
returns-then-out-len c =
    let x = laid_text c.args.s c.args.d.now c.args.from c.args.c in
    (c.layout_len-len.ensures, sym (written_short c.args.out.now x (omega (arith, c.layout_len-len.ensures, c.if-out-len.true))))

pub returns : goal.returns
returns c =
    let x = laid_text c.args.s c.args.d.now c.args.from c.args.c in
    (omega (arith, c.put_layout.ensures.0), c.put_layout.ensures.1 ∙ sym (written_whole c.args.out.now x (omega (arith, c.layout_len-len.ensures, c.if-out-len.false))))
