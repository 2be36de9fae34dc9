-- `paths::Components::next` meets its contract: what was passed holds no component. Assumes nothing.
use Rattle.std.proofs.Common.{◌≡◌, length}
use Rattle.std.specs.Prelude.{None}
use Rattle.paths.specs.Paths.{pieces, kept}
use Rattle.paths.proofs.ComponentsIterator.next.Given as goal

abbrev pub invariant-loop-self : goal.invariant-loop-self
invariant-loop-self l = record {
  passed : l.self-inside.leading ≡ None;
  left : kept (pieces l.self-inside.rest.now) ≡ l.fn.self;
}

abbrev pub decreases-loop-self : goal.decreases-loop-self
decreases-loop-self l = length l.self-inside.rest.now
