-- `prefix::put_prefix` meets its contract: what is written, with the codes that are left, is what the first byte is with all. Assumes nothing.
use mathlib.Core.Path.{◌≡◌}
use mathlib.Core.List.{List, ◌∷◌, ◌++◌}
use Prim.Native.Nat.{ℕ, ◌+◌, ◌*◌, ◌≤◌}
use lib.ListN.{take, drop}
use Rattle.colour.specs.Sequences.{esc}
use Rattle.prefix.specs.Opening.{between, codes_from, applied, styles_of}
use Rattle.prefix.proofs.put_prefix.Given as goal

abbrev pub invariant-loop-on : goal.invariant-loop-on
invariant-loop-on l = record {
  text : (cs : List (List ℕ)) → take l.n l.into ++ codes_from (between l.n) (applied (drop l.on-index (styles_of l.k.styles)) cs) ≡ esc ∷ codes_from 0x5B (applied (styles_of l.k.styles) cs);
  least : 1 ≤ l.n;
  most : l.n ≤ 1 + 2 * l.on-index;
}
