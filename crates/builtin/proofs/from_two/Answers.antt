-- `builtin::from_two` meets its contract. Assumes nothing.
use native.Mathlib.Omega.{arith}
use mathlib.Core.Path.{◌≡◌}
use Rattle.builtin.specs.Rows.{from_two}
use Rattle.builtin.proofs.from_two.Goals as goal

pub returns-then-timestamp : goal.returns-then-timestamp
returns-then-timestamp c =
    let e : from_two c.args.location c.args.timestamp ≡ 3 = λ i. from_two (c.if-location.true i) (c.if-timestamp.true i) in
    omega (arith, e)

pub returns-then-location : goal.returns-then-location
returns-then-location c =
    let e : from_two c.args.location c.args.timestamp ≡ 2 = λ i. from_two (c.if-location.true i) (c.if-timestamp.false i) in
    omega (arith, e)

pub returns-then-timestamp-2 : goal.returns-then-timestamp-2
returns-then-timestamp-2 c =
    let e : from_two c.args.location c.args.timestamp ≡ 1 = λ i. from_two (c.if-location.false i) (c.if-timestamp-2.true i) in
    omega (arith, e)

pub returns : goal.returns
returns c =
    let e : from_two c.args.location c.args.timestamp ≡ 0 = λ i. from_two (c.if-location.false i) (c.if-timestamp-2.false i) in
    omega (arith, e)
