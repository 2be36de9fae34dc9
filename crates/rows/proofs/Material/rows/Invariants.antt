-- `rows::Material::rows` meets its contract. Assumes nothing.
use Rattle.rows.specs.Materials.{record_in}
use Rattle.rows.specs.Rows.{Tabled}
use Rattle.rows.proofs.Material.rows.Given as goal

abbrev pub invariant-loop-i : goal.invariant-loop-i
invariant-loop-i l = Tabled l.self.settings l.self.template.now (record_in l.self) l.self.cells.now l.table l.i
