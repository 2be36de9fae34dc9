-- `caret::put_caret` meets its contract. Assumes nothing.
use Prim.Native.Nat.{◌≤◌}
use native.Mathlib.Omega.{arith}
use Rattle.caret.proofs.Shown.{caret_put, few_columns}
use Rattle.caret.proofs.put_caret.Goals as goal

pub fill-i-requires : goal.fill-i-requires
fill-i-requires c =
    let few : c.count_chars-columns.result.chars ≤ c.args.p =
    few_columns c.args.t.now c.args.p c.line_from-from.result _ (omega arith) c.line_from-from.ensures.1 c.count_chars-columns.ensures.chars_value in
    omega (arith, few)

pub put-requires : goal.put-requires
put-requires c =
    let few : c.count_chars-columns.result.chars ≤ c.args.p =
    few_columns c.args.t.now c.args.p c.line_from-from.result _ (omega arith) c.line_from-from.ensures.1 c.count_chars-columns.ensures.chars_value in
    omega (arith, few, c.fill-i.ensures.0)

pub returns : goal.returns
returns c =
    let few : c.count_chars-columns.result.chars ≤ c.args.p =
    few_columns c.args.t.now c.args.p c.line_from-from.result _ (omega arith) c.line_from-from.ensures.1 c.count_chars-columns.ensures.chars_value in
    let l = c.put.ensures in
    record {
      puts = caret_put c.args.t.now c.args.out.now _ _ c.args.p _ _ _ _ c.line_from-from.ensures.0 c.count_chars-columns.ensures.chars_value (omega (arith, few)) c.fill-i.ensures l;
      within = omega (arith, c.put.ensures.0, c.fill-i.ensures.0, few);
    }
