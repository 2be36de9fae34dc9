-- `session::Sheet::template_at` meets its contract. Assumes nothing.
use native.Mathlib.Omega.{arith}
use mathlib.Core.Path.{ap, ◌∙◌}
use Prim.Native.Nat.{ℕ, ◌+◌}
use Rattle.sheet.specs.Sheets.{contents_end}
use Rattle.session.proofs.Places.{headed_at}
use Rattle.session.proofs.Sheet.template_at.Goals as goal

pub overflow_add-result : goal.overflow_add-result
overflow_add-result c =
    let h = headed_at c.args.self.now c.contents_end.ensures.sheet in
    omega (arith, h.byte, h.end, h.short, c.contents_end.ensures.place)

pub returns : goal.returns
returns c =
    let h = headed_at c.args.self.now c.contents_end.ensures.sheet in
    record {
      places =
          ap (λ (x : ℕ). (x + 1, c.records_from.result)) c.contents_end.ensures.place
          ∙ ap (λ (y : ℕ). (contents_end c.args.self.now + 1, y)) c.records_from.ensures;
      within = (h.byte, h.end);
    }
