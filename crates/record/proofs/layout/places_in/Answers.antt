-- `record::layout::places_in` meets its contract: the right size leaves room for every number. Assumes nothing.
use native.Mathlib.Omega.{arith}
use Rattle.record.proofs.Sizes.{right_size_lem, head_fits}
use Rattle.record.specs.Placed.{places_in}
use Rattle.record.proofs.layout.places_in.Goals as goal

pub u16_at-requires : goal.u16_at-requires
u16_at-requires c = omega (arith, head_fits c.args.form c.args.d.now c.requires)

pub u16_at-requires-2 : goal.u16_at-requires-2
u16_at-requires-2 c = omega (arith, head_fits c.args.form c.args.d.now c.requires)

pub u16_at-requires-3 : goal.u16_at-requires-3
u16_at-requires-3 c = omega (arith, head_fits c.args.form c.args.d.now c.requires)

pub u16_at-requires-4 : goal.u16_at-requires-4
u16_at-requires-4 c = head_fits c.args.form c.args.d.now c.requires

pub serial_length-requires : goal.serial_length-requires
serial_length-requires c = (right_size_lem c.args.form c.args.d.now c.requires).0

pub bounds-d-0 : goal.bounds-d-0
bounds-d-0 c = omega (arith, head_fits c.args.form c.args.d.now c.requires)

pub bounds-d-1 : goal.bounds-d-1
bounds-d-1 c = omega (arith, head_fits c.args.form c.args.d.now c.requires)

pub bounds-d-2 : goal.bounds-d-2
bounds-d-2 c = omega (arith, head_fits c.args.form c.args.d.now c.requires)

pub u32_at-requires : goal.u32_at-requires
u32_at-requires c = omega (arith, head_fits c.args.form c.args.d.now c.requires)

pub returns-clause-value : goal.returns-clause-value
unfolding places_in
returns-clause-value c = cc

pub returns-clause-within : goal.returns-clause-within
returns-clause-within c =
    let s = right_size_lem c.args.form c.args.d.now c.requires in
    record {
      line = c.u32_at.ensures.1;
      file = omega arith;
      module_path = omega arith;
      timestamp = omega arith;
      message = omega arith;
      serial = omega arith;
    }
