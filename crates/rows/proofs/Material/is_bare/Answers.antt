-- `rows::Material::is_bare` meets its contract. Assumes nothing.
use Rattle.rows.proofs.Formats.{text_is_bare, group_is_not, specifier_is}
use Rattle.rows.proofs.Material.is_bare.Goals as goal

pub returns-in-Text : goal.returns-in-Text
returns-in-Text c = text_is_bare _ _ _ c.kind_at.ensures _ c.in-Text.is

pub returns-in-Group : goal.returns-in-Group
returns-in-Group c = group_is_not _ _ _ c.kind_at.ensures _ c.in-Group.is

pub returns-in-Specifier : goal.returns-in-Specifier
returns-in-Specifier c = specifier_is _ _ _ c.kind_at.ensures _ _ _ c.in-Specifier.is c.is_bare_field.ensures
