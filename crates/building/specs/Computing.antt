-- Scaffolding, for proofs alone: what the definitions of this layer compute by, in one name: `unfolding computes` opens them all. Assumes nothing.
use Rattle.building.specs.Reading.{make, make_or, plain_byte, text_to, text_at, word_at, inner_at, with_words, taking, with_segment, odd_item, even_item, built, no_content, item_at, separator, content_at, with_member, with_asked, percent_at, piece_at, closed, no_group, group_at, brace_to, brace_at, inside_at, with_top, top_at}

unfoldable pub computes : Unit {0}
unfolding make make_or plain_byte text_to text_at word_at inner_at with_words taking with_segment odd_item even_item built no_content item_at separator
    content_at with_member with_asked percent_at piece_at closed no_group group_at brace_to brace_at inside_at with_top top_at
computes = tt
