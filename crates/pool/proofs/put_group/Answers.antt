-- `pool::put_group` meets its contract. Assumes nothing.
use mathlib.Core.Path.{refl}
use native.Mathlib.Omega.{arith}
use Rattle.pool.proofs.Stored.{added_last, added_group}
use Rattle.pool.proofs.put_group.Goals as goal

pub returns : goal.returns
returns c =
    record {
      adds = added_group _ _ _ _ _ _ c.store.ensures (omega arith) (omega arith) _ refl (omega arith);
      ends = added_last _ _ _ _ _ _ c.store.ensures (omega arith) (omega arith) _ refl (omega arith);
    }
