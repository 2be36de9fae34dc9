-- `parse_by` meets its contract. Assumes nothing.
use mathlib.Core.Path.{sym}
use Rattle.std.proofs.lemmas.Result.{err_from_is_err_and}
use Rattle.template.proofs.Editions.{was_read, judged_alike}
use Rattle.template.proofs.parse_by.Goals as goal

pub if_all_used-requires : goal.if_all_used-requires
if_all_used-requires c = (c.requires.1, was_read _ _ (sym c.in_ok-n.ensures.cells_after))

pub returns-in_err-n-clause-cells_after : goal.returns-in_err-n-clause-cells_after
returns-in_err-n-clause-cells_after c =
    let p = err_from_is_err_and c.from_residual.result c.from_residual.ensures.1 in
    rw (p.1, p.2) (sym (judged_alike _ _ _ _ (sym c.in_err-n.ensures.cells_after)))
