-- `unused::unused_in` meets its contract. Assumes nothing.
use Rattle.std.proofs.Common.{sym, refl, ◌∙◌, arith, length}
use Rattle.words.proofs.Attempts.{repeated_fit, repeated_misfit}
use Rattle.unused.specs.Looking.{tops_looked}
use Rattle.unused.proofs.Looked.{top_past, rest_dropped, rest_none}
use Rattle.unused.proofs.Agreed.{left_is_unused}
use Rattle.unused.proofs.Inside.{below_told, all_inside}
use Rattle.unused.proofs.unused_in.Goals as goal

pub loop-i-init : goal.loop-i-init
unfolding tops_looked
loop-i-init c = (omega arith, (length c.args.t.now, omega arith, refl))

pub loop-i-preserved : goal.loop-i-preserved
loop-i-preserved c =
    let w = c.in-Some.ensures.within in
    (omega arith, repeated_fit _ _ _ _ _ c.loop-i.invariant.1.0 c.loop-i.invariant.1.2 _ _ (sym c.in-Some.ensures.result_value) w.0 w.1 c.loop-i.invariant.1.1)

pub returns-in_default-clause-value : goal.returns-in_default-clause-value
returns-in_default-clause-value c =
    c.earlier.ensures
    ∙ rest_dropped _ _ _ (repeated_misfit _ 0 _ _ _ c.loop-i.invariant.1.0 c.loop-i.invariant.1.2 (sym c.in_default.ensures.result_value)) c.loop-i-test.true
    ∙ left_is_unused _ c.requires.1

pub returns-clause-value : goal.returns-clause-value
returns-clause-value c =
    rest_none _ _ _ (repeated_misfit _ 0 _ _ _ c.loop-i.invariant.1.0 c.loop-i.invariant.1.2 (top_past _ _ _ c.loop-i-test.false _)) c.loop-i-test.false
    ∙ left_is_unused _ c.requires.1

pub returns-clause-below : goal.returns-clause-below
returns-clause-below c = below_told _ _ _ (all_inside _) (returns-clause-value c)
