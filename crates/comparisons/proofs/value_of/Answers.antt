-- `comparisons::value_of` meets its contract. Assumes nothing.
use native.Mathlib.Omega.{arith}
use Prim.Native.Nat.{◌+◌, ◌≤◌}
use Rattle.buffer.specs.Bytes.{part}
use Rattle.comparisons.proofs.Marking.{too_short, no_mark, value_there, no_value_there}
use Rattle.comparisons.proofs.Sharing.{found_alike, found_unlike}
use Rattle.comparisons.proofs.value_of.Goals as goal
use Rattle.comparisons.proofs.value_of.Goals.{then-line-lt9-via-then-line-lt9, then-line-lt9-via-else-line-lt9+then-d-line-ne96}

pub returns-then-line-lt9 : goal.returns-then-line-lt9
returns-then-line-lt9 c =
    let line = c.args.line in
    elim c.then-line-lt9.branch [
      | then-line-lt9-via-then-line-lt9 w ↦ (too_short _ _ line.from line.to c.requires.0 c.requires.1 c.told-mark w.if-line-lt9.true, tt)
      | then-line-lt9-via-else-line-lt9+then-d-line-ne96 w ↦ (no_mark _ _ line.from line.to (omega (arith, w.if-line-lt9.false)) c.requires.1 w.if-d-line-ne96.true, tt)
    ]

pub returns-then-ne : goal.returns-then-ne
returns-then-ne c =
    let line = c.args.line in
    let long : line.from + 9 ≤ line.to = omega (arith, c.if-line-lt9.false) in
    let mark = c.args.mark.now in
    let e = found_unlike mark (part line.from (line.from + 8) c.args.d.now) c.ne.result c.ne.ensures c.if-ne.true in
    (no_value_there _ mark line.from line.to long c.requires.1 c.told-mark c.if-d-line-ne96.false e, tt)

pub returns : goal.returns
returns c =
    let line = c.args.line in
    let long : line.from + 9 ≤ line.to = omega (arith, c.if-line-lt9.false) in
    let mark = c.args.mark.now in
    let e = found_alike mark (part line.from (line.from + 8) c.args.d.now) c.ne.result c.ne.ensures c.if-ne.false in
    (value_there _ mark line.from line.to long c.requires.1 c.told-mark c.if-d-line-ne96.false e, (omega arith, (omega arith, omega arith)))
