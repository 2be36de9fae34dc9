-- `buffer::put` meets its contract. The loop's invariant: the buffer is as it was with the bytes so far written. Assumes nothing.
use Prim.Native.Nat.{ℕ, ◌+◌}
use lib.ListN.{get_or, set, length-set}
use mathlib.Core.Path.{refl, ap, sym, ◌∙◌}
use mathlib.Core.List.{List}
use Rattle.buffer.specs.Buffer.{put_at}
use Rattle.buffer.proofs.Writing.{put_nil, put_next}
use lib.Seq.{take_all}
use borrow.Author.Rules.{rules}
use Rattle.buffer.proofs.put.Goals as goal

pub loop-i-init : goal.loop-i-init
loop-i-init c = (search rules, (sym (put_nil c.args.dst.now c.args.at), refl))

pub loop-i-preserved : goal.loop-i-preserved
loop-i-preserved c =
    let d = c.args.dst.now in
    let at = c.args.at in
    let i = c.loop-i.i in (
      search rules,
      (
        ap (λ (x : List ℕ). set x (at + i) (get_or c.args.src.now i 0)) c.loop-i.invariant.1.0 ∙ put_next d at c.args.src.now i (search rules) (search rules),
        length-set c.loop-i.dst (at + i) (get_or c.args.src.now i 0) ∙ c.loop-i.invariant.1.1,
      ),
    )

pub returns : goal.returns
returns c = (search rules, c.loop-i.invariant.1.0 ∙ ap (put_at c.args.dst.now c.args.at) (take_all c.loop-i.i c.args.src.now c.loop-i-test.false))
