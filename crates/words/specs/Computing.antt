-- Scaffolding, for proofs alone: what the definitions of this layer compute by, in one name: `unfolding computes` opens them all. Assumes nothing.
use Rattle.words.specs.Trying.{◌or_else◌, ◌then◌, while_it_fits, repeated, further, listed}
use Rattle.words.specs.Words.{sense, count_of_f, repeated_f, or_repeated_f, specifier_of, either, parameter_of, sensed, name_to, name, specifier_at, padding_of, width_of, digits_to, aligned, byte_at, width_at, parameter_at}

unfoldable pub computes : Unit {0}
unfolding ◌or_else◌ ◌then◌ while_it_fits repeated further listed
    sense count_of_f repeated_f or_repeated_f specifier_of either parameter_of sensed name_to name specifier_at padding_of width_of digits_to
    aligned byte_at width_at parameter_at
computes = tt
