-- `leaves::field_len` meets its contract. Assumes nothing.
use mathlib.Core.Path.{sym, ap, ◌∙◌}
use native.Mathlib.Omega.{arith}
use lib.ListN.{length}
use Rattle.measure.specs.declared.sink.Count.{Count}
use Rattle.leaves.specs.Places.{record_by}
use Rattle.leaves.proofs.Fields.{field_worded, laid_at}
use Rattle.leaves.proofs.field_len.Goals as goal

pub layout_len-requires : goal.layout_len-requires
layout_len-requires c =
    let k = laid_at c.args.d.now c.args.shown.now c.requires.lent c.args.s c.args.m c.in-Some.c (sym c.laid.ensures ∙ c.in-Some.is) in
    record {
      spans_within = k.0;
      c_len_bound = k.1.1;
    }

pub returns-in-Some : goal.returns-in-Some
returns-in-Some c =
    let k = laid_at c.args.d.now c.args.shown.now c.requires.lent c.args.s c.args.m c.in-Some.c (sym c.laid.ensures ∙ c.in-Some.is) in
    c.layout_len.ensures ∙ ap length (sym k.1.0)

pub write_wording-requires : goal.write_wording-requires
unfolding record_by
write_wording-requires c =
    let e = field_worded c.args.d.now c.args.shown.now c.requires.lent c.args.s c.args.m (sym c.laid.ensures ∙ c.in-None.is) in
    record {
      wording_within = c.wording_of.ensures.1;
      fits = omega (arith, c.requires.m_len_bound, ap length e, ap length c.wording_of.ensures.0);
    }

pub returns-in-None : goal.returns-in-None
unfolding record_by
returns-in-None c =
    let e = field_worded c.args.d.now c.args.shown.now c.requires.lent c.args.s c.args.m (sym c.laid.ensures ∙ c.in-None.is) in
    omega (arith, ap (λ (n : Count). n.0) c.write_wording.ensures.value, ap length (c.wording_of.ensures.0 ∙ sym e))
