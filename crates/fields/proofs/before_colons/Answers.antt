-- `fields::before_colons` meets its contract. Assumes nothing.
use mathlib.Core.Path.{ap, sym, ◌∙◌}
use Prim.Native.Nat.{◌+◌, ◌≤◌}
use native.Mathlib.Omega.{arith}
use Rattle.buffer.proofs.Parts.{part_length}
use Rattle.fields.proofs.Colons.{colons_found, colons_none, part_front}
use Rattle.fields.specs.Texts.{no_crate, or_placeholder}
use Rattle.fields.specs.Wordings.{bytes_of}
use Rattle.fields.proofs.before_colons.Goals as goal

pub returns-in-Some : goal.returns-in-Some
unfolding bytes_of or_placeholder
returns-in-Some c =
    let d = c.args.d.now in
    let f = rw c.in-Some.is at c.colons_in.ensures in
    let l = part_length d c.args.from c.args.to c.requires.0 c.requires.1 in
    let h : c.args.from + c.in-Some.n ≤ c.args.to = omega (arith, f.0.0) in
    (part_front d c.args.from c.args.to c.in-Some.n h ∙ sym (ap (or_placeholder no_crate) (colons_found _ _ f)), (omega arith, omega arith))

pub returns-in-None : goal.returns-in-None
unfolding bytes_of or_placeholder
returns-in-None c =
    let f = rw c.in-None.is at c.colons_in.ensures in
    (sym (ap (or_placeholder no_crate) (colons_none _ f)), tt)
