-- `scanning::skipping::scan_block` meets its contract: a text without byte 27 moves nothing where no sequence has begun. Assumes nothing.
use mathlib.Core.Path.{sym, ◌∙◌}
use Rattle.colour.proofs.Scanning.{scan_free}
use Rattle.scanning.proofs.Rests.{rests_outside}
use Rattle.scanning.proofs.Searched.{free_of}
use Rattle.scanning.proofs.skipping.scan_block.Goals as goal

pub returns-then-not-contains : goal.returns-then-not-contains
returns-then-not-contains c =
    let h = rests_outside c.args.t.state c.args.t.held (sym c.rests.ensures ∙ c.if-rests.true) in
    sym (scan_free c.args.s.now (free_of c.args.s.now (sym c.contains.ensures.value ∙ c.if-not-contains.true)) c.args.t h.0 h.1)
