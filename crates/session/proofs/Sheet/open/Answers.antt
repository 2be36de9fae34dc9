-- `session::Sheet::open` meets its contract. Assumes nothing.
use native.Mathlib.Omega.{arith}
use mathlib.Core.Path.{ap, ◌∙◌}
use Rattle.settings.specs.Bits.{edition_of}
use Rattle.session.proofs.Places.{opens}
use Rattle.session.proofs.Sheet.open.Goals as goal

pub returns : goal.returns
returns c =
    let it = opens c.args.self.now c.parse.new.cells _ _ c.settings.ensures.sheet c.template.ensures (c.edition_of.ensures ∙ ap edition_of c.settings.ensures.byte) c.parse.result c.parse.ensures.cells_after (omega (arith, c.requires)) c.parse.ensures.keeps in
    record { told = it.0; keeps = it.1 }
