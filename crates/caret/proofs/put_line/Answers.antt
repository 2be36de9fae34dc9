-- `caret::put_line` meets its contract. Assumes nothing.
use native.Mathlib.Omega.{arith}
use Rattle.caret.proofs.Shown.{line_put}
use Rattle.caret.proofs.put_line.Goals as goal

pub returns : goal.returns
returns c =
    let l = c.put.ensures in
    record {
      puts = line_put c.args.t.now c.args.out.now _ _ c.args.p _ _ _ c.line_from-from.ensures.0 c.line_to-to.ensures.0 c.line_from-from.ensures.1 c.line_to-to.ensures.1 c.line_to-to.ensures.2 (omega arith) c.put_harmless.ensures l;
      within = omega (arith, c.put.ensures.0, c.line_from-from.ensures.1, c.line_to-to.ensures.1, c.line_to-to.ensures.2);
    }
