-- `dress::dress` meets its contract: its five writes are one. Assumes nothing.
use mathlib.Core.Path.{ap, ◌∙◌}
use mathlib.Core.List.{List}
use Prim.Native.Nat.{ℕ}
use native.Mathlib.Omega.{arith}
use lib.ListN.{length, take}
use Rattle.buffer.specs.Bytes.{part}
use Rattle.buffer.specs.Buffer.{put_at}
use Rattle.colour.specs.Sequences.{reinserted}
use Rattle.colour.specs.Looks.{prefix}
use Rattle.colour.specs.Formatting.{pad_byte}
use Rattle.dress.proofs.Laying.{same_end, same_around, text_kept, five_writes}
use Rattle.dress.proofs.dress.Goals as goal

pub spread-requires : goal.spread-requires
spread-requires c =
    let w = c.args.w in let p = take c.put_prefix-n.result c.put_prefix-n.new.into in
    let n = same_end (prefix w.format.look) p (part c.args.i c.args.e c.args.out.now) c.args.at w.left c.args.e c.put_prefix-n.ensures.1.0 c.requires.i_le_e.1 in
    let k = text_kept c.args.out.now c.put-a.new.dst c.fill-o.new.dst p c.args.at c.put-a.result c.args.i c.args.e w.left c.pad_byte-z.result
    c.put-a.ensures.1 c.put-a.ensures.0 c.fill-o.ensures.1 c.requires.i_le_e.0 (omega (arith, c.requires)) n in (
      c.requires.i_le_e.0,
      (
        omega (arith, c.fill-o.auto.dst, c.put-a.auto.dst, c.requires),
        omega (arith, c.fill-o.ensures.0, c.put-a.ensures.0, n, ap (λ (x : List ℕ). length (reinserted p x)) k),
      ),
    )

pub returns : goal.returns
returns c =
    let w = c.args.w in let p = take c.put_prefix-n.result c.put_prefix-n.new.into in let s = part c.args.i c.args.e c.args.out.now in
    let q = c.put_prefix-n.ensures.1.0 in
    let n = same_end (prefix w.format.look) p s c.args.at w.left c.args.e q c.requires.i_le_e.1 in (
      omega (arith, c.put.ensures.0, c.fill-m.ensures.0),
      five_writes c.args.out.now c.put-a.new.dst c.fill-o.new.dst c.spread.new.out c.fill-m.new.dst c.put.new.dst p
          c.args.at c.put-a.result c.fill-o.result c.fill-m.result c.args.i c.args.e c.pad_byte-z.result w.left w.right
          c.put-a.ensures.1 c.put-a.ensures.0 c.fill-o.ensures.1 c.fill-o.ensures.0 c.spread.ensures c.fill-m.ensures.1 c.fill-m.ensures.0 c.put.ensures.1
          c.requires.i_le_e.0 n c.requires.r_in_bounds
          ∙ ap (put_at c.args.out.now c.args.at) (same_around (prefix w.format.look) p s w.left w.right c.pad_byte-z.result (pad_byte w.format.padding) q c.pad_byte-z.ensures),
    )
