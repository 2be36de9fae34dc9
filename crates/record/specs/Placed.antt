-- Scaffolding, for proofs alone: a record by places in its bytes, as the code has it. Assumes nothing.
use Rattle.std.specs.Prelude.{ℕ, ◌≤◌, ◌<◌, ◌^◌, List, get_or}
use Rattle.buffer.specs.Bytes.{part}
use Rattle.record.specs.declared.Form.{Form}
use Rattle.record.specs.declared.Places.{Places}
use Rattle.record.specs.Layout.{u32, Laid, texts, file_end, module_end, timestamp_end, message_end, serial_end}

-- each text lies within n bytes, and the line number is one of 32 bits
pub record PlacesWithin (n : ℕ) (p : Places) : Type 0 where
  pub line : p.line < 2 ^ 32
  pub file : (p.file_from ≤ p.file_to) × (p.file_to ≤ n)
  pub module_path : (p.module_from ≤ p.module_to) × (p.module_to ≤ n)
  pub timestamp : (p.timestamp_from ≤ p.timestamp_to) × (p.timestamp_to ≤ n)
  pub message : (p.message_from ≤ p.message_to) × (p.message_to ≤ n)
  pub serial : (p.serial_from ≤ p.serial_to) × (p.serial_to ≤ n)

-- a record as it is laid out, by places in bytes, wherever the texts stand in them
unfoldable pub laid_by : Places → List ℕ → Laid
laid_by p d = record {
  source = p.source;
  level = p.level;
  mask = p.mask;
  line = p.line;
  file = part p.file_from p.file_to d;
  module_path = part p.module_from p.module_to d;
  timestamp = part p.timestamp_from p.timestamp_to d;
  message = part p.message_from p.message_to d;
  serial = part p.serial_from p.serial_to d;
}

-- the places of a record that bytes lay out
unfoldable pub places_in : Form → List ℕ → Places
places_in form d = record {
  source = get_or d 0 0;
  level = get_or d 1 0;
  mask = get_or d 2 0;
  line = u32 d 3;
  file_from = texts form;
  file_to = file_end form d;
  module_from = file_end form d;
  module_to = module_end form d;
  timestamp_from = module_end form d;
  timestamp_to = timestamp_end form d;
  message_from = timestamp_end form d;
  message_to = message_end form d;
  serial_from = message_end form d;
  serial_to = serial_end form d;
}
