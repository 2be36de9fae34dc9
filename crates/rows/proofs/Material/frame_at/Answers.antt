-- `rows::Material::frame_at` meets its contract. Assumes nothing.
use mathlib.Core.Path.{refl}
use Rattle.rows.proofs.Framing.{frame_made}
use Rattle.rows.proofs.Material.frame_at.Goals as goal

pub returns : goal.returns
returns c = frame_made _ _ _ _ _ c.format_of-format.ensures refl c.before_text-left.ensures.0
