-- `comparisons::head::write_head` meets its contract. Assumes nothing.
use Rattle.std.proofs.Common.{◌∙◌}
use Rattle.buffer.specs.Bytes.{part}
use Rattle.measure.proofs.Taking.{owes_all, first_fits, owes_rest, value_paid, buffer_paid}
use Rattle.comparisons.proofs.Heading.{head_none, head_first}
use Rattle.comparisons.proofs.head.write_head.Goals as goal

pub returns-then-i-e : goal.returns-then-i-e
returns-then-i-e g c =
    let e = head_none c.args.d.now c.args.i c.args.e c.if-i-e.true in
    let o = owes_all g.S.Sink.laws _ _ _ c.requires.fits in
    record { value = value_paid g.S.Sink.laws o e; buffer = buffer_paid g.S.Sink.laws o e }

pub take-rest-requires : goal.take-rest-requires
take-rest-requires g c =
    let e = head_first c.args.d.now c.args.i c.args.e c.line_at-first.result c.line_at-first.ensures in
    first_fits g.S.Sink.laws (owes_all g.S.Sink.laws _ _ _ c.requires.fits) (part c.args.i c.line_at-first.result.end c.args.d.now) _ e

pub write_lines-requires : goal.write_lines-requires
write_lines-requires g c =
    let e = head_first c.args.d.now c.args.i c.args.e c.line_at-first.result c.line_at-first.ensures in
    record {
      i_le_e = (c.line_at-first.ensures.inside, c.requires.i_le_e.1);
      fits = (owes_rest g.S.Sink.laws (owes_all g.S.Sink.laws _ _ _ c.requires.fits) (part c.args.i c.line_at-first.result.end c.args.d.now) _ e _ _ c.take-rest.ensures.value c.take-rest.ensures.buffer).fit;
    }

pub returns : goal.returns
returns g c =
    let e = head_first c.args.d.now c.args.i c.args.e c.line_at-first.result c.line_at-first.ensures in
    let o = owes_rest g.S.Sink.laws (owes_all g.S.Sink.laws _ _ _ c.requires.fits) (part c.args.i c.line_at-first.result.end c.args.d.now) _ e _ _ c.take-rest.ensures.value c.take-rest.ensures.buffer in
    record { value = c.write_lines.ensures.value ∙ o.value; buffer = c.write_lines.ensures.buffer ∙ o.buffer }
