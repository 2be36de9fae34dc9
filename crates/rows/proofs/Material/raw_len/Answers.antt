-- `rows::Material::raw_len` meets its contract. Assumes nothing.
use mathlib.Core.Path.{sym, ap, ◌∙◌}
use native.Mathlib.Omega.{arith}
use lib.ListN.{length}
use Rattle.measure.specs.declared.sink.Count.{Count}
use Rattle.rows.specs.Materials.{record_in}
use Rattle.rows.proofs.Tables.{tabled_less}
use Rattle.rows.proofs.Materials.{raw_text_is, raw_members_are, raw_field_is, lengths_are}
use Rattle.rows.proofs.Material.raw_len.Goals as goal

pub members_len-requires-clause-l_bound : goal.members_len-requires-clause-l_bound
members_len-requires-clause-l_bound c =
    let m = c.args.self.now in let i = c.args.i in let l = c.last_at.result in
    let o = tabled_less m.settings m.template.now (record_in m) m.cells.now c.args.table.now i l c.last_at.ensures.1 c.requires.known.tabled in
    omega (arith, c.requires.i_len_bound, lengths_are m c.args.table.now l o, ap length (raw_members_are m i l (sym c.kind_at.ensures ∙ c.in-Group.is) c.last_at.ensures.0))

pub field_len-requires-clause-m_len_bound : goal.field_len-requires-clause-m_len_bound
field_len-requires-clause-m_len_bound c =
    omega (arith, c.requires.i_len_bound, ap length (raw_field_is c.args.self.now c.args.i _ (sym c.kind_at.ensures ∙ c.in-Specifier.is)))

pub write_text-requires : goal.write_text-requires
write_text-requires c = omega (arith, c.requires.i_len_bound, ap length (raw_text_is c.args.self.now c.args.i (sym c.kind_at.ensures ∙ c.in-Text.is)))

pub returns-in-Text : goal.returns-in-Text
returns-in-Text c = omega (arith, ap (λ (n : Count). n.0) c.write_text.ensures.value, ap length (raw_text_is c.args.self.now c.args.i (sym c.kind_at.ensures ∙ c.in-Text.is)))

pub returns-in-Group : goal.returns-in-Group
returns-in-Group c =
    let m = c.args.self.now in let i = c.args.i in let l = c.last_at.result in
    let o = tabled_less m.settings m.template.now (record_in m) m.cells.now c.args.table.now i l c.last_at.ensures.1 c.requires.known.tabled in
    c.members_len.ensures ∙ lengths_are m c.args.table.now l o ∙ sym (ap length (raw_members_are m i l (sym c.kind_at.ensures ∙ c.in-Group.is) c.last_at.ensures.0))

pub returns-in-Specifier : goal.returns-in-Specifier
returns-in-Specifier c = c.field_len.ensures ∙ sym (ap length (raw_field_is c.args.self.now c.args.i _ (sym c.kind_at.ensures ∙ c.in-Specifier.is)))
