-- `measure::padding::pad` meets its contract. Assumes nothing.
use mathlib.Core.Path.{ap, sym, ◌∙◌}
use Prim.Native.Nat.{ℕ}
use lib.ListN.{replicate}
use Rattle.colour.specs.Formatting.{pad_byte}
use Rattle.measure.specs.Measures.{grown}
use Rattle.measure.specs.Measured.{grown_nil}
use Rattle.measure.proofs.Framed.{grown_pad}
use Rattle.measure.proofs.padding.pad.Goals as goal

pub returns-then-n-eq0 : goal.returns-then-n-eq0
returns-then-n-eq0 c = sym (grown_nil c.args.a) ∙ ap (λ (n : ℕ). grown c.args.a (replicate n (pad_byte c.args.z))) (sym c.if-n-eq0.true)

pub returns : goal.returns
returns c = grown_pad c.args.a c.args.z c.args.n c.scan_padding-u.result c.eye_behind.result c.if-n-eq0.false c.scan_padding-u.ensures c.eye_behind.ensures
