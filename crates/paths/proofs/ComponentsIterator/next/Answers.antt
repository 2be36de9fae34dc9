-- `paths::Components::next` meets its contract. Assumes nothing.
use Rattle.std.proofs.Common.{length, sym, ap, ◌∙◌, rules}
use Rattle.paths.proofs.Pieces.{piece_dropped, piece_kept, none_kept}
use Rattle.paths.proofs.ComponentsIterator.next.Goals as goal

pub loop-self-init : goal.loop-self-init
loop-self-init c = record { passed = c.take.ensures.after; left = rw (sym c.take.ensures.value ∙ c.in_default.is) at c.self.view_is }

pub returns-then-not-is_dropped-clause-steps : goal.returns-then-not-is_dropped-clause-steps
returns-then-not-is_dropped-clause-steps c =
    rw c.loop-self.invariant.passed (sym c.loop-self.invariant.left ∙ c.first_piece.ensures.kept ∙ piece_kept _ _ (sym c.is_dropped.ensures ∙ c.if-not-is_dropped.true))

pub returns-then-not-is_dropped-clause-goes : goal.returns-then-not-is_dropped-clause-goes
returns-then-not-is_dropped-clause-goes c =
    let e = returns-then-not-is_dropped-clause-steps c in
    let fewer = ap length e in
    search rules

pub loop-self-preserved : goal.loop-self-preserved
loop-self-preserved c = record {
  passed = c.loop-self.invariant.passed;
  left = sym (piece_dropped _ _ (sym c.is_dropped.ensures ∙ c.if-not-is_dropped.false)) ∙ sym c.first_piece.ensures.kept ∙ c.loop-self.invariant.left;
}

pub returns-clause-steps : goal.returns-clause-steps
returns-clause-steps c =
    let none = none_kept c.loop-self.self-inside.rest.now (search rules) in
    (sym c.loop-self.invariant.left ∙ none, rw c.loop-self.invariant.passed none)
