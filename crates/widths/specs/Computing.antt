-- Scaffolding, for proofs alone: what the definitions of this layer compute by, in one name: `unfolding computes` opens them all. Assumes nothing.
use Rattle.widths.specs.Wide.{wide}
use Rattle.widths.specs.Widths.{is_wide, leading, gone_on, advanced, ran, places, count}

unfoldable pub computes : Unit {0}
unfolding wide is_wide leading gone_on advanced ran places count
computes = tt
