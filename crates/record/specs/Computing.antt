-- Scaffolding, for proofs alone: what the definitions of this layer compute by, in one name: `unfolding computes` opens them all. Assumes nothing.
use Rattle.record.specs.Layout.{little_endian, right_size, laid_out}
use Rattle.record.specs.Levels.{level_in, level_of}
use Rattle.record.specs.Contents.{has_file, has_line, has_module, has_serial, source_of, given_if, record_of}

unfoldable pub computes : Unit {0}
unfolding little_endian right_size laid_out
    has_file has_line has_module has_serial source_of level_in level_of given_if record_of
computes = tt
