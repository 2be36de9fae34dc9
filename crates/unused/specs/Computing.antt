-- Scaffolding, for proofs alone: what the definitions of this layer compute by, in one name: `unfolding computes` opens them all. Assumes nothing.
use Rattle.unused.specs.Unused.{all_lost, lost_with, nothing_noted, asked_from, with_noted, named_at, asked_at, item_noted, unused_by, content_noted, with_noted_member, piece_noted, group_noted, brace_noted_to, brace_noted, inside_noted, top_noted, unused_up_to, reading_noted, unused_in}

unfoldable pub computes : Unit {0}
unfolding all_lost lost_with nothing_noted asked_from with_noted named_at asked_at item_noted unused_by content_noted with_noted_member
    piece_noted group_noted brace_noted_to brace_noted inside_noted top_noted unused_up_to reading_noted unused_in
computes = tt
