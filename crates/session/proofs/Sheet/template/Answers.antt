-- `session::Sheet::template` meets its contract. Assumes nothing.
use native.Mathlib.Omega.{arith}
use mathlib.Core.Path.{ap}
use mathlib.Core.List.{List}
use Prim.Native.Nat.{ℕ}
use lib.ListN.{length}
use Rattle.buffer.specs.Bytes.{part}
use Rattle.session.specs.Walking.{template_in, records_from}
use Rattle.session.proofs.Sheet.template.Goals as goal

pub returns : goal.returns
unfolding template_in records_from
returns c = λ k. part (c.template_at-from.ensures.places k).0 (c.template_at-from.ensures.places k).1 (c.self.view_is k)
