-- `letters::doubt::is_unmarked` meets its contract. Assumes nothing.
use Rattle.letters.proofs.Doubting.{doubt_empty, doubt_last, last_doubt, no_answer, yes_answer, by_number, by_test}
use Rattle.letters.proofs.doubt.is_unmarked.Goals as goal

pub returns-in_default : goal.returns-in_default
returns-in_default c = let t = c.args.t.now in yes_answer t (doubt_empty t c.in_default.ensures.cases)

pub returns-then-doubt-gt0 : goal.returns-then-doubt-gt0
returns-then-doubt-gt0 c =
    let t = c.args.t.now in
    let l = c.in-Some.ensures.cases in
    no_answer t (doubt_last t _ _ l.1 (last_doubt t _ _ _ l.0 c.doubt.ensures) c.if-doubt-gt0.true)

pub returns-then-last-lt-BLOCK : goal.returns-then-last-lt-BLOCK
returns-then-last-lt-BLOCK c =
    let t = c.args.t.now in
    let l = c.in-Some.ensures.cases in
    by_number t _ _ l.1 (last_doubt t _ _ _ l.0 c.doubt.ensures) c.if-doubt-gt0.false _ c.doubts.ensures

pub returns : goal.returns
returns c =
    let t = c.args.t.now in
    let l = c.in-Some.ensures.cases in
    by_test t _ _ l.1 (last_doubt t _ _ _ l.0 c.doubt.ensures) c.if-doubt-gt0.false _ c.is_clear.ensures
