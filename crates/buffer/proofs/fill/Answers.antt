-- `fill` meets its contract. Assumes nothing.
use Prim.Native.Nat.{ℕ, ◌+◌}
use mathlib.Core.Path.{◌≡◌, refl, ap, sym, ◌∙◌}
use native.Mathlib.Omega.{arith}
use lib.ListN.{length, replicate, length-replicate}
use Rattle.buffer.specs.Bytes.{part}
use Rattle.buffer.proofs.Parts.{part_length}
use Rattle.buffer.proofs.Writing.{put_part}
use Rattle.buffer.proofs.fill.Goals as goal

pub returns : goal.returns
returns c =
    let n = c.args.n in
    let e : length (part c.args.at (c.args.at + n) c.args.dst.now) ≡ n = part_length c.args.dst.now c.args.at (c.args.at + n) (omega arith) c.requires ∙ omega arith in
    (refl, put_part c.args.dst.now c.args.at _ _ _ (c.fill.ensures.after (λ y h. h) ∙ ap (λ (m : ℕ). replicate m c.args.b) e) (ap (λ (m : ℕ). c.args.at + m) (sym (length-replicate n c.args.b))))
