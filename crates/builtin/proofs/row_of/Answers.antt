-- `builtin::row_of` meets its contract. Assumes nothing.
use native.Mathlib.Omega.{arith}
use mathlib.Core.Path.{◌≡◌, sym, ap, ◌∙◌}
use Rattle.builtin.specs.declared.Style.{Style}
use Rattle.builtin.specs.Rows.{from_two, template_row}
use Rattle.builtin.proofs.row_of.Goals as goal

pub returns-in-Default : goal.returns-in-Default
returns-in-Default c =
    let e : from_two c.args.location c.args.timestamp ≡ template_row c.args.style c.args.location c.args.timestamp =
    ap (λ (s : Style). template_row s c.args.location c.args.timestamp) (sym c.in-Default.is) in
    omega (arith, e, c.from_two.ensures)

pub returns-in-OneLine : goal.returns-in-OneLine
returns-in-OneLine c = c.from_two-in-OneLine.ensures ∙ ap (λ (s : Style). template_row s c.args.location c.args.timestamp) (sym c.in-OneLine.is)
