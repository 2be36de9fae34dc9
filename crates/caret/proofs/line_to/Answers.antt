-- `caret::line_to` meets its contract. Assumes nothing.
use Rattle.std.proofs.Common.{rules, ◌≡◌, ◌≢◌, ◌<◌, ℕ, length, get_or}
use Rattle.buffer.specs.Bytes.{byte, part}
use Rattle.caret.proofs.Shown.{line_to_newline, line_to_end}
use Rattle.caret.proofs.line_to.Goals as goal

pub returns-in-Some : goal.returns-in-Some
returns-in-Some c =
    let s = part c.args.p (length c.args.t.now) c.args.t.now in
    let f : (c.in-Some.i < length s) × (get_or s c.in-Some.i 0 ≡ byte "\n") × ((k : ℕ) → k < c.in-Some.i → get_or s k 0 ≢ byte "\n") = search rules in
    line_to_newline c.args.t.now c.args.p c.requires c.in-Some.i f.0 f.1 f.2

pub returns-in-None : goal.returns-in-None
returns-in-None c =
    let s = part c.args.p (length c.args.t.now) c.args.t.now in
    let f : (k : ℕ) → k < length s → get_or s k 0 ≢ byte "\n" = search rules in
    line_to_end c.args.t.now c.args.p c.requires f
