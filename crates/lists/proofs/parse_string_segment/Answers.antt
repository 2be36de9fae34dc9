-- `parse_string_segment` meets its contract. Assumes nothing.
use Rattle.building.proofs.Making.{text_told, text_keeps}
use native.Mathlib.Omega.{arith}
use Rattle.lists.proofs.parse_string_segment.Goals as goal

pub returns-clause-cells_after : goal.returns-clause-cells_after
returns-clause-cells_after c = text_told _ _ _ _ _ c.plain_end-j.ensures.value _ _ _ (omega arith) (omega arith) c.put_text.ensures

pub returns-clause-keeps : goal.returns-clause-keeps
returns-clause-keeps c = λ d. text_keeps _ _ _ _ c.requires.2 (omega arith) _ _ _ (omega arith) (omega arith) _ _ c.put_text.ensures d
