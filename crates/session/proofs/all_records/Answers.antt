-- `session::all_records` meets its contract. Assumes nothing.
use native.Mathlib.Omega.{arith}
use Prim.Native.Nat.{ℕ, ◌≤◌, ◌<◌}
use mathlib.Core.Path.{ap, ◌∙◌}
use lib.ListN.{length}
use Rattle.session.specs.Walking.{records_of, lines_by}
use Rattle.outcomes.proofs.Answered.{answer_fits, buffer_fits, answer_over, buffer_over}
use Rattle.refusals.specs.declared.Refusal.{Refusal}
use Rattle.std.specs.Prelude.{Result, Ok, Err}
use Rattle.packing.specs.Packing.{Packable}
use Rattle.session.proofs.all_records.Goals as goal

-- the answers by a length
abbrev over : ℕ → Result ℕ Refusal
over n = Err (Refusal.LineTooLong n)

abbrev fits : ℕ → Result ℕ Refusal
fits n = Ok n

pub returns-then-out-len : goal.returns-then-out-len
unfolding Packable
returns-then-out-len c =
    let out = c.args.out.now in
    let s = lines_by c.args.reading.now (records_of c.args.sheet.now) in
    let e = c.records_length-len.ensures.0 in
    let h : length out < length s = omega (arith, e, c.if-out-len.true) in
    record {
      answer = ap over e ∙ answer_over out s h;
      buffer = buffer_over out s h;
      packable = c.records_length-len.ensures.1;
    }

pub put_records-requires : goal.put_records-requires
put_records-requires c =
    let s = lines_by c.args.reading.now (records_of c.args.sheet.now) in
    let e = c.records_length-len.ensures.0 in
    omega (arith, e, c.if-out-len.false)

pub returns : goal.returns
unfolding Packable
returns c =
    let out = c.args.out.now in
    let s = lines_by c.args.reading.now (records_of c.args.sheet.now) in
    let e = c.records_length-len.ensures.0 in
    let h : length s ≤ length out = omega (arith, e, c.if-out-len.false) in
    record {
      answer = ap fits e ∙ answer_fits out s h;
      buffer = c.put_records.ensures ∙ buffer_fits out s h;
      packable = c.records_length-len.ensures.1;
    }
