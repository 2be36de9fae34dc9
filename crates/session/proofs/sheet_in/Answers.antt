-- `session::sheet_in` meets its contract. Assumes nothing.
use Rattle.std.proofs.Common.{◌≡◌, ◌∙◌, sym, ap, refl, Bool, List, ℕ}
use Rattle.session.specs.Walking.{sheet_or}
use Rattle.session.proofs.sheet_in.Goals as goal

pub returns-then-not-is_sheet : goal.returns-then-not-is_sheet
unfolding sheet_or
returns-then-not-is_sheet c = ap (λ (b : Bool). sheet_or b c.args.d.now) (sym c.if-not-is_sheet.true ∙ c.is_sheet.ensures)

pub returns : goal.returns
unfolding sheet_or
returns c = ap (λ (b : Bool). sheet_or b c.args.d.now) (sym c.if-not-is_sheet.false ∙ c.is_sheet.ensures)
