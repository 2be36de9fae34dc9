-- Scaffolding, for proofs alone: what the definitions of this layer compute by, in one name: `unfolding computes` opens them all. Assumes nothing.
use Rattle.colour.specs.Sequences.{longer, in_sequence, tail_length, bracket_length, sequence_length, unless_sequence, passing, visible, starts_with, rest_of_reset, copying, reinserted}
use Rattle.colour.specs.Looks.{foreground, ink_codes, where_it_applies, codes, following, sequence, prefix}
use Rattle.colour.specs.Formatting.{due, prefix_in, inserted, counted, padded, before, pad_byte, ending, framed, formatted}
use Rattle.colour.specs.Shown.{text_of}

unfoldable pub computes : Unit {0}
unfolding longer in_sequence tail_length bracket_length sequence_length unless_sequence passing visible starts_with rest_of_reset copying reinserted
    foreground ink_codes where_it_applies codes following sequence prefix
    due prefix_in inserted counted padded before pad_byte ending framed formatted
    text_of
computes = tt
