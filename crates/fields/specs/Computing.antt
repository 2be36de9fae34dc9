-- Scaffolding, for proofs alone: what the definitions of this layer compute by, in one name: `unfolding computes` opens them all. Assumes nothing.
use Rattle.fields.specs.Texts.{or_placeholder, there, digits, decimal_text, not_empty, time_of, wording}
use Rattle.fields.specs.Lines.{in_format, compared_from, message_from, specifier_shown, segment_shown, print_shown, record_shown, line_of}

unfoldable pub computes : Unit {0}
unfolding or_placeholder there digits decimal_text not_empty time_of wording
    in_format compared_from message_from specifier_shown segment_shown print_shown record_shown line_of
computes = tt
