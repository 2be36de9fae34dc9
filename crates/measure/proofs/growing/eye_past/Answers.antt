-- `measure::growing::eye_past` meets its contract. Assumes nothing.
use borrow.Author.Tests.{eq-eqb, ne_eqb}
use mathlib.Core.Path.{sym, ap, ◌∙◌}
use mathlib.Core.Bool.{Bool, cond}
use Rattle.scanning.specs.Resting.{is_resting}
use Rattle.measure.specs.Measures.{behind_padding}
use Rattle.measure.proofs.growing.eye_past.Goals as goal

pub returns-then-n-eq0 : goal.returns-then-n-eq0
returns-then-n-eq0 c = sym (ap (λ (b : Bool). cond b c.args.e (behind_padding c.args.e (is_resting c.args.t.state c.args.t.held))) (eq-eqb c.args.n 0 c.if-n-eq0.true))

pub returns : goal.returns
returns c = c.eye_behind.ensures ∙ sym (ap (λ (b : Bool). cond b c.args.e (behind_padding c.args.e (is_resting c.args.t.state c.args.t.held))) (ne_eqb c.args.n 0 c.if-n-eq0.false))
