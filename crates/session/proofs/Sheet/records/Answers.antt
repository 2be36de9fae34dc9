-- `session::Sheet::records` meets its contract. Assumes nothing.
use Rattle.std.proofs.Common.{sym, ap, ◌∙◌, subst, length, ◌≤◌, ℕ, List, arith}
use Rattle.session.specs.Walking.{records_from, records_of}
use Rattle.session.proofs.Places.{headed_at, some_body, begins, begins_all, few}
use Rattle.session.proofs.Sheet.records.Goals as goal

pub body_count-requires : goal.body_count-requires
body_count-requires c = let h = headed_at c.self.inside.bytes.now c.self.invariant in omega (arith, h.long)

pub overflow_sub-result : goal.overflow_sub-result
overflow_sub-result c = omega (arith, some_body c.self.inside.bytes.now c.self.invariant, c.body_count.ensures.0)

pub invariant_of-result : goal.invariant_of-result
invariant_of-result c =
    let d = c.self.inside.bytes.now in
    begins d c.body_count.result c.records_from.result c.body_count.ensures.0 (c.records_from.ensures ∙ ap records_from (sym c.self.view_is)) c.self.invariant

pub returns : goal.returns
returns c =
    let d = c.self.inside.bytes.now in
    let e = begins_all d c.body_count.result c.records_from.result c.body_count.ensures.0 (c.records_from.ensures ∙ ap records_from (sym c.self.view_is)) in
    record {
      records = e ∙ ap records_of c.self.view_is;
      few = omega (arith, few d c.self.invariant, ap length e);
    }
