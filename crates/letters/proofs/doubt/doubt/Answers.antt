-- `letters::doubt::doubt` meets its contract. Assumes nothing.
use Rattle.letters.proofs.Doubting.{doubt_told}
use Rattle.letters.proofs.doubt.doubt.Goals as goal

pub returns : goal.returns
returns c = doubt_told c.args.a c.args.b _ _ _ _ _ c.below.ensures c.below-2.ensures c.below-3.ensures c.below-4.ensures c.below-5.ensures
