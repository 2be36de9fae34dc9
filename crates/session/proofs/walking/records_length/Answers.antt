-- `session::walking::records_length` meets its contract. Assumes nothing.
use Rattle.std.proofs.Common.{◌≡◌, ◌∙◌, sym, ap, length, List, ℕ, arith}
use Rattle.session.specs.Walking.{records_of, lines_by}
use Rattle.session.proofs.Places.{lines_count, lines_end}
use Rattle.session.proofs.walking.records_length.Goals as goal

pub loop-body-init : goal.loop-body-init
loop-body-init c =
    let r = c.args.reading.now in
    let e : c.into_iter-body-iterator.result ≡ records_of c.args.sheet.now = c.into_iter-body-iterator.ensures.into_iter_gives ∙ c.records-body-items.ensures.records in
    record {
      counted = omega (arith, ap (λ (x : List (List ℕ)). length (lines_by r x)) e);
      most = omega (arith, c.records-body-items.ensures.few, ap length c.records-body-items.ensures.records, ap length e);
    }

pub overflow_add-sum : goal.overflow_add-sum
overflow_add-sum c = omega (arith, c.loop-body.invariant.most, c.outcome_length-sum.ensures.1, ap length c.in-Some.ensures.steps)

pub loop-body-preserved : goal.loop-body-preserved
loop-body-preserved c =
    let r = c.args.reading.now in
    let e = c.in-Some.ensures.steps in
    record {
      counted = omega (arith, c.loop-body.invariant.counted, c.outcome_length-sum.ensures.0, lines_count r _ _ _ e);
      most = omega (arith, c.loop-body.invariant.most, c.outcome_length-sum.ensures.1, ap length e);
    }

pub returns : goal.returns
returns c =
    let none = ap length (lines_end c.args.reading.now _ c.in-None.ensures.steps.0) in
    (omega (arith, c.loop-body.invariant.counted, none), omega (arith, c.loop-body.invariant.most))
