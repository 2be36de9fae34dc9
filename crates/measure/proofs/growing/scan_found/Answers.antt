-- `measure::growing::scan_found` meets its contract: a text without byte 27 moves nothing where no sequence has begun. Assumes nothing.
use mathlib.Core.Path.{sym, ◌∙◌}
use Rattle.colour.proofs.Scanning.{scan_free}
use Rattle.colour.proofs.Shows.{free_by_has}
use Rattle.scanning.proofs.Rests.{rests_outside}
use Rattle.measure.proofs.growing.scan_found.Goals as goal

pub returns-then-rests : goal.returns-then-rests
returns-then-rests c =
    let t = c.args.t in
    let s = c.args.s.now in
    let h = rests_outside c.args.t.state c.args.t.held (sym c.rests.ensures ∙ c.if-rests.true) in
    sym (scan_free s (free_by_has s (sym c.requires.met_value ∙ c.if-not-met.true)) t h.0 h.1)
