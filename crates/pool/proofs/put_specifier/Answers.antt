-- `pool::put_specifier` meets its contract. Assumes nothing.
use mathlib.Core.Path.{refl}
use native.Mathlib.Omega.{arith}
use Rattle.pool.proofs.Stored.{added_specifier}
use Rattle.pool.proofs.put_specifier.Goals as goal

pub returns : goal.returns
returns c = added_specifier _ _ _ _ _ _ c.store.ensures (omega arith) (omega arith) _ refl
