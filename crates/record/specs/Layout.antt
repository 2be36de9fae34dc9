-- A record as bytes (document 01, "Session sheet and its program"): "source byte (0 device, 1 host), level byte, presence mask (1 file,
-- 2 line, 4 module), u32 line, u16 lengths of file, module, timestamp, message, then those texts"; in the new form (document 02, E7) a fifth text, the head's
-- serial, "and its length comes after the message's". Assumes nothing.
use Rattle.std.specs.Prelude.{ℕ, zero, suc, ◌+◌, ◌*◌, Bool, ◌&&◌, List, eqb, leb, length, get_or}
use Rattle.buffer.specs.Bytes.{part}
use Rattle.record.specs.declared.Form.{Form}

-- "all numbers are little-endian": the number in n bytes from place i on
unfoldable pub little_endian : ℕ → List ℕ → ℕ → ℕ
little_endian zero d i = 0
little_endian (suc n) d i = get_or d i 0 + 256 * little_endian n d (i + 1)

-- the number of two bytes at place i
abbrev pub u16 : List ℕ → ℕ → ℕ
u16 d i = little_endian 2 d i

-- the number of four bytes at place i
abbrev pub u32 : List ℕ → ℕ → ℕ
u32 d i = little_endian 4 d i

-- a record as it is laid out, nothing checked yet
pub record Laid : Type 0 where
  pub source : ℕ
  pub level : ℕ
  pub mask : ℕ
  pub line : ℕ
  pub file : List ℕ
  pub module_path : List ℕ
  pub timestamp : List ℕ
  pub message : List ℕ
  pub serial : List ℕ

-- where the texts begin: after three bytes, the line and four lengths, in the new form after a fifth
abbrev pub texts : Form → ℕ
texts Form.Old = 15
texts Form.New = 17

-- "its length comes after the message's"; an old record has none
abbrev pub serial_length : Form → List ℕ → ℕ
serial_length Form.Old d = 0
serial_length Form.New d = u16 d 15

-- where the file's text ends
abbrev pub file_end : Form → List ℕ → ℕ
file_end form d = texts form + u16 d 7

-- where the module's text ends
abbrev pub module_end : Form → List ℕ → ℕ
module_end form d = file_end form d + u16 d 9

-- where the timestamp's text ends
abbrev pub timestamp_end : Form → List ℕ → ℕ
timestamp_end form d = module_end form d + u16 d 11

-- where the message's text ends
abbrev pub message_end : Form → List ℕ → ℕ
message_end form d = timestamp_end form d + u16 d 13

-- where the serial's text ends
abbrev pub serial_end : Form → List ℕ → ℕ
serial_end form d = message_end form d + serial_length form d

-- a record of the right size
unfoldable pub right_size : Form → List ℕ → Bool
right_size form d = leb (texts form) (length d) && eqb (serial_end form d) (length d)

-- the record that bytes lay out
unfoldable pub laid_out : Form → List ℕ → Laid
laid_out form d = record {
  source = get_or d 0 0;
  level = get_or d 1 0;
  mask = get_or d 2 0;
  line = u32 d 3;
  file = part (texts form) (file_end form d) d;
  module_path = part (file_end form d) (module_end form d) d;
  timestamp = part (module_end form d) (timestamp_end form d) d;
  message = part (timestamp_end form d) (message_end form d) d;
  serial = part (message_end form d) (serial_end form d) d;
}
