-- `rows::Material::format_of` meets its contract. Assumes nothing.
use Rattle.leaves.specs.Places.{level_by}
use Rattle.rows.proofs.Formats.{other_format, specifier_format_lem}
use Rattle.rows.proofs.Material.format_of.Goals as goal

pub returns-in-Specifier : goal.returns-in-Specifier
unfolding level_by
returns-in-Specifier c = specifier_format_lem _ _ _ c.kind_at.ensures _ _ _ _ c.in-Specifier.is c.format_at-format.ensures c.specifier_format.ensures

pub returns-in_default : goal.returns-in_default
unfolding level_by
returns-in_default c = other_format _ _ _ c.kind_at.ensures _ _ _ _ c.in_default.not-Specifier c.requires.i_value c.format_at-format.ensures c.group_format.ensures
