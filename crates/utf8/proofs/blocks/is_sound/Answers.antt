-- `utf8::blocks::is_sound` meets its contract. Assumes nothing.
use borrow.Author.Rules.{rules}
use mathlib.Core.Path.{◌≡◌}
use mathlib.Core.List.{List}
use Prim.Native.Nat.{ℕ, ◌<◌, ◌≤◌, ◌+◌, ◌-◌}
use native.Mathlib.Decide.{dec_lt}
use native.Mathlib.Omega.{arith}
use lib.ListN.{get_or}
use Rattle.buffer.specs.Bytes.{part}
use Rattle.utf8.specs.Windows.{top_of}
use Rattle.utf8.proofs.Greatest.{top_bound}
use Rattle.utf8.proofs.Checking.{checked_block, ascii_block}
use Rattle.utf8.proofs.blocks.is_sound.Goals as goal

-- no byte of the block is as large as m, nor of the three before it
module _ (s : List ℕ) (i top m : ℕ) (e : top ≡ top_of (part i (i + 32) s)) (t : top < m) where
  in_block : (k : ℕ) → i ≤ k → k < i + 32 → get_or s k 0 < m
  in_block k p q = omega (arith, top_bound s i (i + 32) k p q)

  around : (before : ℕ) → 3 ≤ i → before ≡ top_of (part (i - 3) i s) → before < m → (k : ℕ) → i - 3 ≤ k → k < (i - 3) + 3 + 32 → get_or s k 0 < m
  around before h f u k p q = elim (dec_lt k i) [ yes l ↦ omega (arith, top_bound s (i - 3) i k p l) | no n ↦ in_block k (omega arith) (omega arith) ]

pub returns-then-top-lt128 : goal.returns-then-top-lt128
returns-then-top-lt128 c =
    ascii_block c.args.s.now c.args.i 32 c.due_at.result c.requires.0 (omega arith) c.requires.1
    (in_block c.args.s.now c.args.i c.greatest-top.result 0x80 c.greatest-top.ensures c.if-top-lt128.true)
    c.due_at.ensures

pub flaws_of_two-requires : goal.flaws_of_two-requires
flaws_of_two-requires c =
    record {
      n_in_bounds = search rules;
      by_index = around c.args.s.now c.args.i c.greatest-top.result 0xE0 c.greatest-top.ensures c.if-top-lt224.true c.greatest.result c.requires.0 c.greatest.ensures c.if-greatest-lt224.true;
    }

pub returns-then-greatest-lt224 : goal.returns-then-greatest-lt224
returns-then-greatest-lt224 c = checked_block c.args.s.now c.args.i 32 c.flaws_of_two.result c.requires.0 c.flaws_of_two.ensures

pub returns : goal.returns
returns c = checked_block c.args.s.now c.args.i 32 c.flaws.result c.requires.0 c.flaws.ensures
