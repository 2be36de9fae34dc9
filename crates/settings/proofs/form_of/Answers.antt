-- `settings::form_of` meets its contract: the bit by division. Assumes nothing.
use Rattle.record.proofs.Bits.{bit_on, bit_off}
use Rattle.settings.specs.Bits.{form_of}
use Rattle.settings.proofs.form_of.Goals as goal

pub returns-then-b-ne0 : goal.returns-then-b-ne0
unfolding form_of
returns-then-b-ne0 c = rw (bit_on c.args.b 3 c.if-b-ne0.true, form_of)

pub returns-else-b-ne0 : goal.returns-else-b-ne0
unfolding form_of
returns-else-b-ne0 c = rw (bit_off c.args.b 3 c.if-b-ne0.false, form_of)
