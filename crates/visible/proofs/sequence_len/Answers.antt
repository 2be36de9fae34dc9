-- `visible::sequence_len` meets its contract. Assumes nothing.
use Rattle.std.proofs.Common.{rules, ◌≡◌, ◌<◌, ℕ, true, false, length, get_or, arith}
use Rattle.colour.specs.Sequences.{in_sequence}
use Rattle.visible.proofs.Sequences.{not_begun, begun_only, begun_and_ended, tail_found, tail_broken, tail_unended}
use Rattle.visible.proofs.sequence_len.Goals as goal

pub returns-in_err-rest : goal.returns-in_err-rest
returns-in_err-rest c = rw c.from_residual.ensures (not_begun _ c.in_err-rest.ensures.cases)

pub returns-in_err-n : goal.returns-in_err-n
returns-in_err-n c =
    let x = c.in_ok-rest.rest.now in
    let h = c.in_ok-rest.ensures.cases in
    let f : (k : ℕ) → k < length x → in_sequence (get_or x k 0) ≡ true = search rules in
    rw c.from_residual-in_err-n.ensures (begun_only _ x h.0 h.1 (tail_unended x f))

pub returns-then-rest-n-eq109 : goal.returns-then-rest-n-eq109
returns-then-rest-n-eq109 c =
    let x = c.in_ok-rest.rest.now in
    let n = c.in_ok-n.n in
    let h = c.in_ok-rest.ensures.cases in
    let f : (n < length x) × ((k : ℕ) → k < n → in_sequence (get_or x k 0) ≡ true) = search rules in
    (begun_and_ended _ x h.0 h.1 n (tail_found x n f.0 c.if-rest-n-eq109.true f.1), omega (arith, h.2, f.0))

pub returns-else-rest-n-eq109 : goal.returns-else-rest-n-eq109
returns-else-rest-n-eq109 c =
    let x = c.in_ok-rest.rest.now in
    let n = c.in_ok-n.n in
    let h = c.in_ok-rest.ensures.cases in
    let f : (n < length x) × (in_sequence (get_or x n 0) ≡ false) × ((k : ℕ) → k < n → in_sequence (get_or x k 0) ≡ true) = search rules in
    begun_only _ x h.0 h.1 (tail_broken x n f.0 f.1 c.if-rest-n-eq109.false f.2)
