-- `packing::answer_in` meets its contract. Assumes nothing.
use Rattle.packing.proofs.Rooms.{in_whole, in_short}
use Rattle.packing.proofs.answer_in.Goals as goal

pub returns-then-n-room : goal.returns-then-n-room
returns-then-n-room c = in_whole _ _ c.if-n-room.true

pub returns : goal.returns
returns c = in_short _ _ c.if-n-room.false
