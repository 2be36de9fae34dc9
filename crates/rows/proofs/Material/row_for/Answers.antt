-- `rows::Material::row_for` meets its contract. Assumes nothing.
use mathlib.Core.Path.{◌≡◌, sym, ap, subst, ◌∙◌}
use mathlib.Core.Bool.{false, true}
use native.Mathlib.Omega.{arith}
use Rattle.measure.specs.declared.Measure.{Measure}
use Rattle.measure.specs.Measures.{nothing, grown, Small}
use Rattle.measure.proofs.Measured.{small_nothing, small_grown}
use Rattle.segments.specs.Pool.{segment_at}
use Rattle.rows.specs.Materials.{raw_in}
use Rattle.rows.proofs.Framing.{row_bare, row_none, row_counted, row_made}
use Rattle.rows.proofs.Materials.{raw_fits}
use Rattle.rows.proofs.Material.row_for.Goals as goal

pub raw_len-requires-clause-i_len_bound : goal.raw_len-requires-clause-i_len_bound
raw_len-requires-clause-i_len_bound c =
    omega (arith, c.requires.i_len_bound, raw_fits c.args.self.now c.requires.known.readable.lent c.args.i true (sym c.is_bare.ensures ∙ c.if-is_bare.true))

pub returns-then-is_bare : goal.returns-then-is_bare
returns-then-is_bare c =
    let m = c.args.self.now in
    row_bare m.settings m.template.now m.bytes.now m.shown.now c.requires.known.readable.lent (segment_at m.cells.now c.args.i) c.bare_row.result c.raw_len.result (sym c.is_bare.ensures ∙ c.if-is_bare.true) c.raw_len.ensures c.bare_row.ensures

pub raw_len-requires-then-p-eq0-clause-i_len_bound : goal.raw_len-requires-then-p-eq0-clause-i_len_bound
raw_len-requires-then-p-eq0-clause-i_len_bound c =
    omega (arith, c.requires.i_len_bound, raw_fits c.args.self.now c.requires.known.readable.lent c.args.i false (sym c.is_bare.ensures ∙ c.if-is_bare.false))

pub returns-then-p-eq0 : goal.returns-then-p-eq0
returns-then-p-eq0 c =
    let m = c.args.self.now in
    row_none m.settings m.template.now m.bytes.now m.shown.now c.requires.known.readable.lent (segment_at m.cells.now c.args.i) c.format_of-f.result c.bare_row-then-p-eq0.result c.raw_len-then-p-eq0.result (sym c.is_bare.ensures ∙ c.if-is_bare.false) c.format_of-f.ensures c.if-f-eq0.true (sym c.prefix_len-p.ensures.0 ∙ c.if-p-eq0.true) c.raw_len-then-p-eq0.ensures c.bare_row-then-p-eq0.ensures

pub raw_of-x-requires-clause-small : goal.raw_of-x-requires-clause-small
raw_of-x-requires-clause-small c =
    let m = c.args.self.now in (
      subst Small (sym c.none.ensures) (small_nothing m.settings.rule),
      omega (arith, c.requires.i_len_bound, raw_fits m c.requires.known.readable.lent c.args.i false (sym c.is_bare.ensures ∙ c.if-is_bare.false), ap (λ (y : Measure). y.len) c.none.ensures),
    )

pub inserted_in-n-requires : goal.inserted_in-n-requires
inserted_in-n-requires c =
    let m = c.args.self.now in
    let xe : c.raw_of-x.result ≡ grown (nothing m.settings.rule) (raw_in m c.args.i) = c.raw_of-x.ensures ∙ ap (λ (y : Measure). grown y (raw_in m c.args.i)) c.none.ensures in
    let sm : Small c.raw_of-x.result = subst Small (sym xe) (small_grown (nothing m.settings.rule) (raw_in m c.args.i) (small_nothing m.settings.rule)) in
    omega (arith, c.requires.i_len_bound, raw_fits m c.requires.known.readable.lent c.args.i false (sym c.is_bare.ensures ∙ c.if-is_bare.false), ap (λ (y : Measure). y.len) xe, sm.resets)

pub overflow_add-result : goal.overflow_add-result
overflow_add-result c =
    let m = c.args.self.now in
    let xe : c.raw_of-x.result ≡ grown (nothing m.settings.rule) (raw_in m c.args.i) = c.raw_of-x.ensures ∙ ap (λ (y : Measure). grown y (raw_in m c.args.i)) c.none.ensures in
    omega (arith, c.requires.i_len_bound, row_counted m.settings m.template.now m.bytes.now m.shown.now c.requires.known.readable.lent (segment_at m.cells.now c.args.i) c.format_of-f.result c.raw_of-x.result c.inserted_in-n.result c.padding_in-z.result c.prefix_len-p.result c.ends_len.result (sym c.is_bare.ensures ∙ c.if-is_bare.false) c.format_of-f.ensures xe c.inserted_in-n.ensures c.padding_in-z.ensures c.prefix_len-p.ensures.0 c.ends_len.ensures)

pub overflow_add-result-2 : goal.overflow_add-result-2
overflow_add-result-2 c =
    let m = c.args.self.now in
    let xe : c.raw_of-x.result ≡ grown (nothing m.settings.rule) (raw_in m c.args.i) = c.raw_of-x.ensures ∙ ap (λ (y : Measure). grown y (raw_in m c.args.i)) c.none.ensures in
    omega (arith, c.requires.i_len_bound, row_counted m.settings m.template.now m.bytes.now m.shown.now c.requires.known.readable.lent (segment_at m.cells.now c.args.i) c.format_of-f.result c.raw_of-x.result c.inserted_in-n.result c.padding_in-z.result c.prefix_len-p.result c.ends_len.result (sym c.is_bare.ensures ∙ c.if-is_bare.false) c.format_of-f.ensures xe c.inserted_in-n.ensures c.padding_in-z.ensures c.prefix_len-p.ensures.0 c.ends_len.ensures)

pub overflow_add-result-3 : goal.overflow_add-result-3
overflow_add-result-3 c =
    let m = c.args.self.now in
    let xe : c.raw_of-x.result ≡ grown (nothing m.settings.rule) (raw_in m c.args.i) = c.raw_of-x.ensures ∙ ap (λ (y : Measure). grown y (raw_in m c.args.i)) c.none.ensures in
    omega (arith, c.requires.i_len_bound, row_counted m.settings m.template.now m.bytes.now m.shown.now c.requires.known.readable.lent (segment_at m.cells.now c.args.i) c.format_of-f.result c.raw_of-x.result c.inserted_in-n.result c.padding_in-z.result c.prefix_len-p.result c.ends_len.result (sym c.is_bare.ensures ∙ c.if-is_bare.false) c.format_of-f.ensures xe c.inserted_in-n.ensures c.padding_in-z.ensures c.prefix_len-p.ensures.0 c.ends_len.ensures)

pub returns : goal.returns
returns c =
    let m = c.args.self.now in
    let xe : c.raw_of-x.result ≡ grown (nothing m.settings.rule) (raw_in m c.args.i) = c.raw_of-x.ensures ∙ ap (λ (y : Measure). grown y (raw_in m c.args.i)) c.none.ensures in
    row_made m.settings m.template.now m.bytes.now m.shown.now c.requires.known.readable.lent (segment_at m.cells.now c.args.i) c.format_of-f.result c.raw_of-x.result c.inserted_in-n.result c.padding_in-z.result c.prefix_len-p.result c.ends_len.result (sym c.is_bare.ensures ∙ c.if-is_bare.false) c.format_of-f.ensures xe c.inserted_in-n.ensures c.padding_in-z.ensures c.prefix_len-p.ensures.0 c.ends_len.ensures
