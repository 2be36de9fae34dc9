-- `answer::put_message` meets its contract. Assumes nothing.
use Rattle.std.proofs.Common.{sym, ap, subst, ◌∙◌, length, arith}
use Rattle.buffer.specs.Buffer.{written}
use Rattle.record.specs.Placed.{laid_by}
use Rattle.record.specs.Contents.{record_of}
use Rattle.fields.specs.Worded.{Compares}
use Rattle.leaves.specs.Places.{record_by}
use Rattle.answer.proofs.Messages.{print_small, print_bare, print_laid, print_within}
use Rattle.answer.proofs.put_message.Goals as goal

pub put_comparison-requires : goal.put_comparison-requires
unfolding record_by
put_comparison-requires c =
    let d = c.args.d.now in
    let x = c.args.shown.now in
    let k = subst (Compares d x.places) c.in-Some.is c.requires.compared in
    (print_within c.args.s d x.places _ k c.requires.places, omega (arith, ap length (print_laid c.args.s d x.places _ k), print_small c.args.s (record_of (laid_by x.places d)) c.requires.short))

pub returns-in-Some : goal.returns-in-Some
unfolding record_by
returns-in-Some c =
    let d = c.args.d.now in
    let p = c.args.shown.now.places in
    let e = print_laid c.args.s d p _ (subst (Compares d p) c.in-Some.is c.requires.compared) in
    (c.put_comparison.ensures.0 ∙ ap length (sym e), c.put_comparison.ensures.1 ∙ ap (written c.args.out.now) (sym e))

pub returns-in-None : goal.returns-in-None
unfolding record_by
returns-in-None c =
    let d = c.args.d.now in
    let p = c.args.shown.now.places in
    let e = print_bare c.args.s d p (subst (Compares d p) c.in-None.is c.requires.compared) in
    (c.put_text.ensures.0 ∙ ap length (sym e), c.put_text.ensures.1 ∙ ap (written c.args.out.now) (sym e))
