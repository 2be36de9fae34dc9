-- `leaves::add_field` meets its contract. Assumes nothing.
use mathlib.Core.Path.{sym, ap, ◌∙◌}
use native.Mathlib.Omega.{arith}
use lib.ListN.{length}
use Rattle.measure.specs.Measures.{grown}
use Rattle.leaves.specs.Places.{record_by}
use Rattle.leaves.proofs.Fields.{field_worded, laid_at}
use Rattle.leaves.proofs.add_field.Goals as goal

pub add_layout-requires : goal.add_layout-requires
add_layout-requires c =
    let k = laid_at c.args.d.now c.args.shown.now c.requires.lent c.args.s c.args.m c.in-Some.c (sym c.laid.ensures ∙ c.in-Some.is) in
    record {
      spans_within = k.0;
      small = (c.requires.small.0, omega (arith, ap length k.1.0, c.requires.small.1));
    }

pub returns-in-Some : goal.returns-in-Some
returns-in-Some c =
    let k = laid_at c.args.d.now c.args.shown.now c.requires.lent c.args.s c.args.m c.in-Some.c (sym c.laid.ensures ∙ c.in-Some.is) in
    c.add_layout.ensures ∙ ap (grown c.args.a) (sym k.1.0)

pub write_wording-requires : goal.write_wording-requires
unfolding record_by
write_wording-requires c =
    let e = field_worded c.args.d.now c.args.shown.now c.requires.lent c.args.s c.args.m (sym c.laid.ensures ∙ c.in-None.is) in
    record {
      wording_within = c.wording_of.ensures.1;
      fits = (c.requires.small.0, omega (arith, c.requires.small.1, ap length e, ap length c.wording_of.ensures.0));
    }

pub returns-in-None : goal.returns-in-None
unfolding record_by
returns-in-None c =
    let e = field_worded c.args.d.now c.args.shown.now c.requires.lent c.args.s c.args.m (sym c.laid.ensures ∙ c.in-None.is) in
    c.write_wording.ensures.value ∙ ap (grown c.args.a) (c.wording_of.ensures.0 ∙ sym e)
