-- `leaves::put_field` meets its contract. Assumes nothing.
use Prim.Native.Nat.{ℕ, ◌+◌}
use mathlib.Core.List.{List}
use mathlib.Core.Path.{sym, ap, ◌∙◌}
use native.Mathlib.Omega.{arith}
use lib.ListN.{length}
use Rattle.buffer.specs.Buffer.{put_at}
use Rattle.measure.specs.declared.sink.Place.{Place}
use Rattle.leaves.specs.Places.{record_by}
use Rattle.leaves.proofs.Fields.{field_worded, laid_at}
use Rattle.leaves.proofs.put_field.Goals as goal

pub put_layout-requires : goal.put_layout-requires
put_layout-requires c =
    let k = laid_at c.args.d.now c.args.shown.now c.requires.lent c.args.s c.args.m c.in-Some.c (sym c.laid.ensures ∙ c.in-Some.is) in
    record {
      spans_within = k.0;
      c_in_bounds = (omega (arith, ap length k.1.0, c.requires.m_in_bounds), k.1.1);
    }

pub returns-in-Some : goal.returns-in-Some
returns-in-Some c =
    let k = laid_at c.args.d.now c.args.shown.now c.requires.lent c.args.s c.args.m c.in-Some.c (sym c.laid.ensures ∙ c.in-Some.is) in
    (omega (arith, c.put_layout.ensures.0, ap length k.1.0), c.put_layout.ensures.1 ∙ ap (put_at c.args.out.now c.args.at) (sym k.1.0))

pub write_wording-requires : goal.write_wording-requires
unfolding record_by
write_wording-requires c =
    let e = field_worded c.args.d.now c.args.shown.now c.requires.lent c.args.s c.args.m (sym c.laid.ensures ∙ c.in-None.is) in
    record {
      wording_within = c.wording_of.ensures.1;
      fits = omega (arith, c.requires.m_in_bounds, ap length e, ap length c.wording_of.ensures.0);
    }

pub returns-in-None : goal.returns-in-None
unfolding record_by
returns-in-None c =
    let e = field_worded c.args.d.now c.args.shown.now c.requires.lent c.args.s c.args.m (sym c.laid.ensures ∙ c.in-None.is) in
    let x = c.wording_of.ensures.0 ∙ sym e in
    (ap (λ (n : Place). n.0) c.write_wording.ensures.value ∙ ap (λ (y : List ℕ). c.args.at + length y) x, c.write_wording.ensures.buffer ∙ ap (put_at c.args.out.now c.args.at) x)
