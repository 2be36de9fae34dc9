-- Scaffolding, for proofs alone: what the definitions of this layer compute by, in one name: `unfolding computes` opens them all. Assumes nothing.
use Rattle.buffer.specs.Bytes.{same}
use Rattle.buffer.specs.Table.{lookup}
use Rattle.buffer.specs.Buffer.{put_at, written}

unfoldable pub computes : Unit {0}
unfolding same
    lookup
    put_at written
computes = tt
