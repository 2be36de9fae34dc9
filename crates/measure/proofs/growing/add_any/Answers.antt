-- `measure::growing::add_any` meets its contract. Assumes nothing.
use native.Mathlib.Omega.{arith}
use Rattle.characters.proofs.Counting.{chars_length}
use Rattle.measure.proofs.Adding.{grown_shut}
use Rattle.measure.proofs.growing.add_any.Goals as goal

pub scan_found-u-requires : goal.scan_found-u-requires
scan_found-u-requires c =
    record {
      s_bound = (omega (arith, c.requires.1, c.requires.0.seen, c.requires.0.count), omega (arith, c.requires.1, c.requires.0.resets));
      met_value = c.count_chars-c.ensures.met_value;
    }

pub overflow_add-result : goal.overflow_add-result
overflow_add-result c = omega (arith, c.requires.0.count, c.requires.1, c.count_chars-c.ensures.chars_value, chars_length c.args.s.now)

pub add_places-requires : goal.add_places-requires
add_places-requires c =
    let p = c.requires in
    record {
      small = p;
      rule_value = (c.in-Places.is, c.scan_found-u.ensures);
      chars_value = (c.count_chars-c.ensures.chars_value, c.count_chars-c.ensures.met_value);
    }

pub returns-in-Characters : goal.returns-in-Characters
returns-in-Characters c = grown_shut c.args.a c.args.s.now c.scan_found-u.result c.count_chars-c.result.chars c.scan_found-u.ensures c.count_chars-c.ensures.chars_value c.in-Characters.is
