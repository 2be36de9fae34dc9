-- `measure::seeing::look` meets its contract. Assumes nothing.
use native.Mathlib.Omega.{arith}
use mathlib.Core.Path.{ap, sym, subst, ◌∙◌}
use Rattle.std.proofs.Common.{inl, inr}
use Rattle.widths.specs.declared.Wides.{Wides}
use Rattle.widths.specs.Widths.{advanced}
use Rattle.widths.specs.Fitting.{Fits}
use Rattle.colour.specs.declared.Act.{Act}
use Rattle.colour.specs.Seeing.{looked_at}
use Rattle.colour.proofs.Seeing.{let_go_wide, fits_let_go}
use Rattle.measure.proofs.seeing.look.Goals as goal

pub advance-requires : goal.advance-requires
advance-requires c =
    let g = c.let_go.ensures in (
      subst (λ (w : Wides). Fits w.pending) (sym g) (fits_let_go c.args.t.held c.args.w c.requires.0),
      omega (arith, c.requires.1, ap (λ (w : Wides). w.wide) g, let_go_wide c.args.t.held c.args.w),
    )

pub returns-in-Text : goal.returns-in-Text
returns-in-Text c =
    c.advance.ensures
    ∙ ap (λ (w : Wides). advanced w c.args.b) c.let_go.ensures
    ∙ ap (λ (x : Act). looked_at x c.args.t.held c.args.w c.args.b) (sym c.in-Text.is ∙ c.act_of.ensures)

pub returns-in-Esc : goal.returns-in-Esc
returns-in-Esc c = c.let_go-in-Esc.ensures ∙ ap (λ (x : Act). looked_at x c.args.t.held c.args.w c.args.b) (sym c.in-Esc.is ∙ c.act_of.ensures)

pub returns-in-More : goal.returns-in-More
returns-in-More c =
    elim c.in-More.is [
      | inl (_, e) ↦ ap (λ (x : Act). looked_at x c.args.t.held c.args.w c.args.b) (sym e ∙ c.act_of.ensures)
      | inr (inl e) ↦ ap (λ (x : Act). looked_at x c.args.t.held c.args.w c.args.b) (sym e ∙ c.act_of.ensures)
      | inr (inr e) ↦ ap (λ (x : Act). looked_at x c.args.t.held c.args.w c.args.b) (sym e ∙ c.act_of.ensures)
    ]
