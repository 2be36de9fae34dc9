-- `pool::put_text` meets its contract. Assumes nothing.
use mathlib.Core.Path.{refl}
use native.Mathlib.Omega.{arith}
use Rattle.pool.proofs.Stored.{added_text}
use Rattle.pool.proofs.put_text.Goals as goal

pub returns : goal.returns
returns c = added_text _ _ _ _ _ _ c.store.ensures (omega arith) (omega arith) _ _ refl
