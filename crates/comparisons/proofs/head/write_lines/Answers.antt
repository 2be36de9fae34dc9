-- `comparisons::head::write_lines` meets its contract. Assumes nothing.
use Rattle.std.proofs.Common.{refl}
use Rattle.buffer.specs.Bytes.{bytes, part}
use Rattle.measure.proofs.Taking.{owes_all, first_fits, owes_rest, value_paid, buffer_paid}
use Rattle.comparisons.proofs.Heading.{lines_none, lines_first}
use Rattle.comparisons.proofs.head.write_lines.Goals as goal

pub loop-k-init : goal.loop-k-init
loop-k-init g c = record { inside = c.requires.i_le_e.0; owes = owes_all g.S.Sink.laws _ _ _ c.requires.fits }

pub take-rest-requires : goal.take-rest-requires
take-rest-requires g c = first_fits g.S.Sink.laws c.loop-k.invariant.owes (bytes "\n") _ (lines_first c.args.d.now c.loop-k.k c.args.e c.line_at-line.result c.line_at-line.ensures)

pub take-rest-requires-in-loop-k : goal.take-rest-requires-in-loop-k
take-rest-requires-in-loop-k g c =
    let e = lines_first c.args.d.now c.loop-k.k c.args.e c.line_at-line.result c.line_at-line.ensures in
    let o = owes_rest g.S.Sink.laws c.loop-k.invariant.owes (bytes "\n") _ e _ _ c.take-rest.ensures.value c.take-rest.ensures.buffer in
    first_fits g.S.Sink.laws o (part c.loop-k.k c.line_at-line.result.end c.args.d.now) _ refl

pub loop-k-preserved : goal.loop-k-preserved
loop-k-preserved g c =
    let e = lines_first c.args.d.now c.loop-k.k c.args.e c.line_at-line.result c.line_at-line.ensures in
    let o = owes_rest g.S.Sink.laws c.loop-k.invariant.owes (bytes "\n") _ e _ _ c.take-rest.ensures.value c.take-rest.ensures.buffer in
    record {
      inside = c.line_at-line.ensures.inside;
      owes = owes_rest g.S.Sink.laws o (part c.loop-k.k c.line_at-line.result.end c.args.d.now) _ refl _ _ c.take-rest-in-loop-k.ensures.value c.take-rest-in-loop-k.ensures.buffer;
    }

pub returns : goal.returns
returns g c =
    let e = lines_none c.args.d.now c.loop-k.k c.args.e c.loop-k-test.false in
    record { value = value_paid g.S.Sink.laws c.loop-k.invariant.owes e; buffer = buffer_paid g.S.Sink.laws c.loop-k.invariant.owes e }
