-- `measure::growing::add` meets its contract. Assumes nothing.
use mathlib.Core.Path.{sym, ◌∙◌}
use Rattle.measure.proofs.growing.add.Goals as goal

pub add_plain-requires : goal.add_plain-requires
add_plain-requires c =
    record {
      small = c.requires;
      held_value = (sym c.rests.ensures ∙ c.if-rests.true, sym c.is_plain.ensures ∙ c.if-is_plain.true);
    }
