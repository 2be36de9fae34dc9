-- `dress::dress_bare` meets its contract: as in `dress`, and the two paddings are empty. Assumes nothing.
use mathlib.Core.Path.{ap, sym}
use mathlib.Core.List.{List}
use Prim.Native.Nat.{ℕ}
use native.Mathlib.Nat.{add-zero}
use native.Mathlib.Omega.{arith}
use lib.ListN.{length}
use Rattle.buffer.proofs.Writing.{put_nil}
use Rattle.colour.specs.Sequences.{reinserted}
use Rattle.dress.proofs.Laying.{text_kept, five_writes}
use Rattle.dress.proofs.dress_bare.Goals as goal

pub spread-requires : goal.spread-requires
spread-requires c =
    let a = c.put-o.result in let d = c.put-o.new.dst in
    let k = text_kept c.args.out.now d d c.args.p.now c.args.at a c.args.i c.args.e 0 0
    c.put-o.ensures.1 c.put-o.ensures.0 (sym (put_nil d a)) c.requires.i_le_e.0 (omega (arith, c.requires)) c.requires.i_le_e.1 in (
      c.requires.i_le_e.0,
      (
        omega (arith, c.put-o.auto.dst, c.requires),
        omega (arith, c.put-o.ensures.0, c.requires, ap (λ (x : List ℕ). length (reinserted c.args.p.now x)) k),
      ),
    )

pub returns : goal.returns
returns c =
    let a = c.put-o.result in let d = c.put-o.new.dst in let e = c.args.e in let s = c.spread.new.out in (
      c.put.ensures.0,
      five_writes c.args.out.now d d s s c.put.new.dst c.args.p.now c.args.at a a e c.args.i e 0 0 0
          c.put-o.ensures.1 c.put-o.ensures.0 (sym (put_nil d a)) (sym (add-zero a)) c.spread.ensures (sym (put_nil s e)) (sym (add-zero e)) c.put.ensures.1
          c.requires.i_le_e.0 c.requires.i_le_e.1 c.requires.e_in_bounds,
    )
