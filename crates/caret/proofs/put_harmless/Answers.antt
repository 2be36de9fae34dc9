-- `caret::put_harmless` meets its contract. Assumes nothing.
use Rattle.std.proofs.Common.{refl, sym, ◌∙◌, arith}
use Rattle.buffer.proofs.Writing.{put_nil, copy_more, copy_done}
use Rattle.caret.specs.Caret.{harmless_behind}
use Rattle.caret.proofs.Shown.{shown_length, byte_shown, rest_shown}
use Rattle.caret.proofs.put_harmless.Goals as goal

pub loop-i-init : goal.loop-i-init
loop-i-init c = (sym (put_nil _ 0), refl)

pub loop-i-preserved : goal.loop-i-preserved
loop-i-preserved c =
    let text = c.args.text.now in
    let m = harmless_behind 0 text in
    let i = c.loop-i.i in
    let n = shown_length 0 text in
    let x = c.harmless_byte.ensures ∙ byte_shown text m c.loop-i.before i (omega arith) c.loop-i.invariant.1 in
    (copy_more c.args.out.now m i (omega (arith, n)) _ _ c.loop-i.invariant.0 (omega (arith, n)) x, rest_shown text m c.loop-i.before i (omega arith) c.loop-i.invariant.1)

pub returns : goal.returns
returns c =
    let n = shown_length 0 c.args.text.now in
    copy_done c.args.out.now (harmless_behind 0 c.args.text.now) c.loop-i.i (omega (arith, n)) _ c.loop-i.invariant.0 (omega (arith, n))
