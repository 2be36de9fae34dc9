-- `layouts::layout_len` meets its contract. Assumes nothing.
use mathlib.Core.Path.{sym, ap, subst, ◌∙◌}
use native.Mathlib.Omega.{arith}
use Rattle.measure.specs.declared.Measure.{Measure}
use Rattle.measure.specs.Measures.{Small}
use Rattle.measure.specs.Measured.{small_nothing}
use Rattle.layouts.proofs.layout_len.Goals as goal

pub add_layout-requires : goal.add_layout-requires
add_layout-requires c =
    record {
      spans_within = c.requires.spans_within;
      small = (subst Small (sym c.none.ensures) (small_nothing c.args.s.rule), omega (arith, ap (λ (m : Measure). m.len) c.none.ensures, c.requires.c_len_bound));
    }

pub returns : goal.returns
returns c = ap (λ (m : Measure). m.len) c.add_layout.ensures ∙ omega (arith, ap (λ (m : Measure). m.len) c.none.ensures)
