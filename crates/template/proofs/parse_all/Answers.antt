-- `parse_all` meets its contract. Assumes nothing.
use native.Mathlib.Omega.{arith}
use mathlib.Core.Path.{sym, ap, subst, ◌∙◌}
use mathlib.Core.List.{List}
use lib.ListN.{length}
use Rattle.segments.specs.declared.Cell.{Cell}
use Rattle.std.specs.Prelude.{Ok}
use Rattle.std.proofs.lemmas.Result.{err_from_is_err_and}
use Rattle.words.specs.Trying.{fit}
use Rattle.words.specs.Within.{told}
use Rattle.words.proofs.Answers.{fitting}
use Rattle.words.proofs.Attempts.{repeated_fit, repeated_misfit, repeated_refused}
use Rattle.building.specs.Reading.{Top}
use Rattle.template.proofs.Topped.{Ended, none_kept, top_begins, top_kept, top_grown, top_more, top_ends, top_refuses, top_past, top_closes, top_fails, top_after, read_after}
use Rattle.template.proofs.parse_all.Goals as goal
use Rattle.template.proofs.parse_all.Goals.{else-loop-i-test, then-loop-i-test+in_ok-j+in_default}

pub loop-i-init : goal.loop-i-init
loop-i-init c = (omega arith, none_kept _, (length c.args.t.now, omega arith, top_begins _ _ _))

pub returns-in_err-j-clause-cells_after : goal.returns-in_err-j-clause-cells_after
unfolding told
returns-in_err-j-clause-cells_after c =
    let p = err_from_is_err_and c.from_residual.result c.from_residual.ensures.1 in
    let v = c.loop-i.invariant.2 in
    rw (p.1, p.2) (top_fails _ _ (repeated_refused _ _ _ _ _ v.0 v.2 _ (top_refuses _ _ _ _ _ _ c.in_err-j.ensures.cells_after) c.loop-i-test.true v.1))

pub loop-i-smaller : goal.loop-i-smaller
loop-i-smaller c =
    let w = fitting _ _ c.in_ok-j.ensures.keeps.within (c.in-Some.j, c.in-Some.k) (ap Ok c.in-Some.is) in
    let f = w.from in
    let e = w.end in
    omega arith

pub loop-i-preserved : goal.loop-i-preserved
unfolding told
loop-i-preserved c =
    let w = fitting _ _ c.in_ok-j.ensures.keeps.within (c.in-Some.j, c.in-Some.k) (ap Ok c.in-Some.is) in
    let f = w.from in
    let e = w.end in
    let front = c.parse_top.ensures.keeps.front in
    let v = c.loop-i.invariant.2 in (
      omega arith,
      top_kept _ _ _ _ _ _ _ front w c.loop-i.invariant.1,
      repeated_fit _ _ _ _ _ v.0 v.2 _ _ (top_more _ _ _ _ _ _ _ _ (rw c.in-Some.is at c.in_ok-j.ensures.cells_after) (top_grown _ _ _ _ _ _ _ front w)) f e v.1,
    )

pub returns : goal.returns
unfolding told
returns c =
    let t = c.args.t.now in
    let v = c.loop-i.invariant.2 in
    let so : Ended t c.loop-i-test.cells c.loop-i.n c.loop-i.i =
    elim c.loop-i-test.branch [
      | else-loop-i-test w ↦
          subst (λ (x : List Cell). Ended t x c.loop-i.n c.loop-i.i) (sym w.cells-is)
          (record { kept = c.loop-i.invariant.1; reads = repeated_misfit _ 0 _ _ _ v.0 v.2 (top_past _ _ _ _ w.loop-i-test.false) })
      | then-loop-i-test+in_ok-j+in_default w ↦
          let front = w.parse_top.ensures.keeps.front in
          subst (λ (x : List Cell). Ended t x c.loop-i.n c.loop-i.i) (sym w.cells-is)
          (record {
            kept = read_after _ _ _ c.loop-i.invariant.1 front;
            reads = ap (λ (s : Top). fit s c.loop-i.i) (top_after _ _ _ front)
                ∙ repeated_misfit _ 0 _ _ _ v.0 v.2 (top_ends _ _ _ _ _ (rw w.in_default.is at w.in_ok-j.ensures.cells_after));
          })
    ] in
    record {
      cells_after = top_closes _ _ _ _ so _ c.format_contains_log_specifier.ensures.cells_value;
      keeps = c.format_contains_log_specifier.ensures.keeps so.kept;
    }
