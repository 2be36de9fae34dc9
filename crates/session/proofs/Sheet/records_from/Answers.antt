-- `session::Sheet::records_from` meets its contract. Assumes nothing.
use native.Mathlib.Omega.{arith}
use mathlib.Core.Path.{ap}
use Rattle.sheet.specs.Sheets.{contents_end}
use Rattle.session.specs.Walking.{records_from}
use Rattle.session.proofs.Places.{headed_at}
use Rattle.session.proofs.Sheet.records_from.Goals as goal

pub body_length-requires : goal.body_length-requires
body_length-requires c = (headed_at c.self.inside.bytes.now c.self.invariant).long

pub overflow_add-result : goal.overflow_add-result
unfolding records_from
overflow_add-result c =
    let h = headed_at c.self.inside.bytes.now c.self.invariant in
    omega (arith, h.byte, h.end, h.short, c.contents_end.ensures.place, c.body_length.ensures.0, ap contents_end c.self.view_is)

pub returns : goal.returns
unfolding records_from
returns c = omega (arith, c.contents_end.ensures.place, c.body_length.ensures.0, ap records_from c.self.view_is, ap contents_end c.self.view_is)
