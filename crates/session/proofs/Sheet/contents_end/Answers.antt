-- `session::Sheet::contents_end` meets its contract. Assumes nothing.
use native.Mathlib.Omega.{arith}
use mathlib.Core.Path.{◌≡◌, ap, subst}
use mathlib.Core.Bool.{true}
use mathlib.Core.List.{List}
use Prim.Native.Nat.{ℕ}
use Rattle.sheet.specs.Sheets.{is_sheet, contents_end}
use Rattle.sheet.proofs.Standing.{contents_end_lem}
use Rattle.session.proofs.Places.{headed_at}
use Rattle.session.proofs.Sheet.contents_end.Goals as goal

pub body_count-requires : goal.body_count-requires
body_count-requires c = let h = headed_at c.self.inside.bytes.now c.self.invariant in omega (arith, h.long)

pub returns : goal.returns
returns c = record {
  place = omega (arith, contents_end_lem c.self.inside.bytes.now, c.body_count.ensures.0, ap contents_end c.self.view_is);
  sheet = subst (λ (x : List ℕ). is_sheet x ≡ true) c.self.view_is c.self.invariant;
}
