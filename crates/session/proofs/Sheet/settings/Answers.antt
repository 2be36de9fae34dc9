-- `session::Sheet::settings` meets its contract. Assumes nothing.
use Rattle.std.proofs.Common.{◌≡◌, true, sym, ap, ◌∙◌, subst, ℕ, List, get_or, arith}
use Rattle.sheet.specs.Sheets.{is_sheet, contents_end}
use Rattle.session.specs.Walking.{settings_in}
use Rattle.session.proofs.Places.{headed_at}
use Rattle.session.proofs.Sheet.settings.Goals as goal

pub bounds-self-inside-contents_end : goal.bounds-self-inside-contents_end
bounds-self-inside-contents_end c =
    let h = headed_at c.self.inside.bytes.now c.self.invariant in
    omega (arith, h.byte, h.end, c.contents_end.ensures.place, ap contents_end c.self.view_is)

pub returns : goal.returns
returns c =
    let d = c.self.inside.bytes.now in
    record {
      byte = ap (λ (x : ℕ). get_or d x 0) (c.contents_end.ensures.place ∙ ap contents_end (sym c.self.view_is)) ∙ ap settings_in c.self.view_is;
      sheet = subst (λ (x : List ℕ). is_sheet x ≡ true) c.self.view_is c.self.invariant;
    }
