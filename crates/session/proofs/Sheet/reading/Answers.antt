-- `session::Sheet::reading` meets its contract. Assumes nothing.
use Rattle.std.proofs.Common.{sym, subst, ◌∙◌, List, ℕ}
use Rattle.answer.specs.Maker.{maker_of, IsRead}
use Rattle.session.proofs.Sheet.reading.Goals as goal

pub new-requires : goal.new-requires
new-requires c = subst (λ (t : List ℕ). IsRead t c.args.cells.now c.args.n) (sym c.template.ensures) c.requires

pub returns : goal.returns
returns c = c.new.ensures ∙ (λ k. maker_of (c.settings.ensures.byte k) (c.template.ensures k) c.args.cells.now c.args.n)
