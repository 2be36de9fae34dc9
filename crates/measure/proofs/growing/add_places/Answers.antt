-- `measure::growing::add_places` meets its contract. Assumes nothing.
use native.Mathlib.Omega.{arith}
use mathlib.Core.Path.{ap}
use Rattle.widths.specs.declared.Wides.{Wides}
use Rattle.characters.proofs.Counting.{chars_length}
use Rattle.colour.proofs.Seeing.{seen_few}
use Rattle.measure.specs.Measures.{begun_with}
use Rattle.measure.proofs.Adding.{grown_seen}
use Rattle.measure.proofs.growing.add_places.Goals as goal

pub see-w-requires : goal.see-w-requires
see-w-requires c =
    record {
      chars_value = c.requires.chars_value;
      fits = (c.requires.small.0.few, omega (arith, c.requires.small.1, c.requires.small.0.seen, c.requires.small.0.count));
    }

pub overflow_add-result : goal.overflow_add-result
overflow_add-result c = omega (arith, c.requires.small.1, c.requires.small.0.count, c.requires.chars_value.0, chars_length c.args.s.now)

pub overflow_add-result-2 : goal.overflow_add-result-2
overflow_add-result-2 c =
    omega (
      arith,
      c.requires.small.1,
      c.requires.small.0.count,
      c.requires.chars_value.0,
      ap (λ (w : Wides). w.wide) c.see-w.ensures,
      seen_few c.args.s.now c.args.a.scan (begun_with c.args.a.eye.awaited c.args.a.eye.bits),
    )

pub returns : goal.returns
returns c = grown_seen c.args.a c.args.s.now c.args.u c.args.c.chars c.requires.rule_value.1 c.requires.chars_value.0 c.requires.rule_value.0 c.see-w.result c.see-w.ensures
