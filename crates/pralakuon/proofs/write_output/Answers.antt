-- `pralakuon::write_output` is safe and ends. Assumes nothing.
use native.Mathlib.Omega.{arith}
use mathlib.Core.Path.{sym, ap, ◌∙◌}
use Prim.Native.Nat.{ℕ}
use lib.ListN.{length}
use Rattle.session.proofs.Places.{its_sheet}
use Rattle.pralakuon.proofs.write_output.Goals as goal

pub reading-requires : goal.reading-requires
reading-requires g c = c.in-Ok-open.ensures.keeps.read

pub slice_bounds-point_at-end : goal.slice_bounds-point_at-end
slice_bounds-point_at-end g c =
    let d = c.args.d.now in
    let e = its_sheet d c.in-Ok.sheet _ (sym c.sheet_in.ensures ∙ c.in-Ok.is) in
    omega (arith, ap (λ (p : ℕ × ℕ). p.1) c.template_at-from.ensures.places, c.template_at-from.ensures.within.1, ap length e)
