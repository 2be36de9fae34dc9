-- `caret::line_from` meets its contract. Assumes nothing.
use Rattle.std.proofs.Common.{rules, ◌≡◌, ◌≢◌, ◌<◌, ℕ, length, take, get_or}
use Rattle.buffer.specs.Bytes.{byte}
use Rattle.caret.proofs.Shown.{line_from_newline, line_from_start}
use Rattle.caret.proofs.line_from.Goals as goal

pub returns-in-Some : goal.returns-in-Some
returns-in-Some c =
    let s = take c.args.p c.args.t.now in
    let i = c.in-Some.i in
    let f : (i < length s) × (get_or s i 0 ≡ byte "\n") × ((k : ℕ) → i < k → k < length s → get_or s k 0 ≢ byte "\n") = search rules in
    line_from_newline c.args.t.now c.args.p c.requires i f.0 f.1 f.2

pub returns-in-None : goal.returns-in-None
returns-in-None c =
    let s = take c.args.p c.args.t.now in
    let f : (k : ℕ) → k < length s → get_or s k 0 ≢ byte "\n" = search rules in
    line_from_start c.args.t.now c.args.p c.requires f
