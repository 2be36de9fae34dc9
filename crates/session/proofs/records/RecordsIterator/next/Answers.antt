-- `session::records::Records::next` meets its contract. Assumes nothing.
use Rattle.std.proofs.Common.{◌≡◌, ◌<◌, ◌+◌, ◌-◌, ℕ, [], ◌∷◌, length, sym, ap, subst, ◌∙◌, arith}
use Rattle.buffer.specs.Bytes.{part}
use Rattle.sheet.specs.Sheets.{bodies_from}
use Rattle.session.specs.Walking.{Standing}
use Rattle.session.proofs.Places.{stands_at_end, record_fits, next_stands, next_is}
use Rattle.session.proofs.records.RecordsIterator.next.Goals as goal

pub returns-in_err-self-inside-clause-steps : goal.returns-in_err-self-inside-clause-steps
returns-in_err-self-inside-clause-steps c =
    let r = c.self.inside in
    let e : c.args.self.now ≡ [] = sym c.self.view_is ∙ stands_at_end r.left r.sheet.now r.length_at r.record_at (omega (arith, c.in_err-self-inside.ensures)) in
    rw c.from_residual.ensures (e, e)

pub slice_bounds-result-end : goal.slice_bounds-result-end
slice_bounds-result-end c =
    let r = c.self.inside in
    let f = record_fits r.left r.sheet.now r.length_at r.record_at c.in_ok-self-inside.ensures.0 c.self.invariant in
    omega (arith, f.1, c.body_length.ensures.0)

pub invariant_of-self : goal.invariant_of-self
invariant_of-self c =
    let r = c.self.inside in
    let j = r.record_at + c.body_length.result in
    subst (λ (m : ℕ). Standing m r.sheet.now (r.length_at + 4) j) (sym c.in_ok-self-inside.ensures.1) (next_stands r.left r.sheet.now r.length_at r.record_at c.in_ok-self-inside.ensures.0 c.self.invariant c.body_length.result c.body_length.ensures.0)

pub returns-clause-steps : goal.returns-clause-steps
returns-clause-steps c =
    let r = c.self.inside in
    let j = r.record_at + c.body_length.result in
    sym c.self.view_is
    ∙ next_is r.left r.sheet.now r.length_at r.record_at c.in_ok-self-inside.ensures.0 c.self.invariant c.body_length.result c.body_length.ensures.0
    ∙ ap (λ (m : ℕ). part r.record_at j r.sheet.now ∷ bodies_from m r.sheet.now (r.length_at + 4) j) (sym c.in_ok-self-inside.ensures.1)

pub returns-clause-goes : goal.returns-clause-goes
returns-clause-goes c =
    let r = c.self.inside in
    let j = r.record_at + c.body_length.result in
    let rest = bodies_from c.in_ok-self-inside.field-0 r.sheet.now (r.length_at + 4) j in
    let n = next_is r.left r.sheet.now r.length_at r.record_at c.in_ok-self-inside.ensures.0 c.self.invariant c.body_length.result c.body_length.ensures.0 in
    let m = ap (λ (k : ℕ). part r.record_at j r.sheet.now ∷ bodies_from k r.sheet.now (r.length_at + 4) j) (sym c.in_ok-self-inside.ensures.1) in
    let few : length rest < length c.args.self.now = omega (arith, ap length (sym c.self.view_is ∙ n ∙ m)) in
    record { on = λ h. (tt, tt, few); keeps = tt; rests = λ h. tt }
