-- `record::marks::marks` meets its contract: each field's bit, by division. Assumes nothing.
use Rattle.record.proofs.Bits.{bit_test, bit_test_lowest}
use Rattle.record.proofs.marks.marks.Goals as goal
use Rattle.record.proofs.marks.marks.Goals.{in-File, in-Line, in-Module, in-Serial}

pub returns : goal.returns
returns c =
    elim c.match-field.branch [
      | in-File w ↦ rw (w.bit-is, w.in-File.is) (bit_test_lowest c.args.mask)
      | in-Line w ↦ rw (w.bit-is, w.in-Line.is) (bit_test c.args.mask 1)
      | in-Module w ↦ rw (w.bit-is, w.in-Module.is) (bit_test c.args.mask 2)
      | in-Serial w ↦ rw (w.bit-is, w.in-Serial.is) (bit_test c.args.mask 3)
    ]
